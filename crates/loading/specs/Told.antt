-- What a load is given, and what its answer tells of the blocks.
use Rattle.std.specs.Prelude.{◌≡◌, ℕ, ◌<◌, ◌≤◌, List, length, Ok, Err, Result}
use Rattle.rules.specs.declared.blocks.Children.{Children}
use Rattle.rules.specs.declared.blocks.Lists.{Lists}
use Rattle.rules.specs.declared.refusals.Refusal.{Refusal}
use Rattle.rules.specs.declared.refusals.Refusal.TheVariants.{ChildTwice, Unreached}
use Rattle.rules.specs.Trees.{count}
use Rattle.rules.specs.Links.{tree_of, named, Path}
use Rattle.rules.specs.Loads.{Given}

-- the arguments of a load, and the length of its walk memory, as one record
abbrev pub given : Lists → ℕ → Given
given l w = record { sizes = l.sizes.now; letters = l.letters.now; children = l.children.now; root = l.root; walk = w }

-- What the answer says of the child pairs. Of an accepted load: a path leads from the root to each block, each block is
-- named once, as the root or as a child, and stands in the tree once. Of a block named twice: no lower block is.
-- Of a block not reached: no path leads to it, and to each lower block one does.
pub record Told (cs : List Children) (root : ℕ) (answer : Result (Unit {0}) Refusal) : Type 0 where
  pub accepted : answer ≡ Ok tt → (k : ℕ) → k < length cs → Path cs root k × (named cs root k ≡ 1) × (count k (tree_of cs root) ≡ 1)
  pub child_twice : (k : ℕ) → answer ≡ Err (ChildTwice k) → (1 < named cs root k) × ((j : ℕ) → j < k → named cs root j ≤ 1)
  pub not_reached : (k : ℕ) → answer ≡ Err (Unreached k) → (Path cs root k → ⊥) × ((j : ℕ) → j < k → Path cs root j)
