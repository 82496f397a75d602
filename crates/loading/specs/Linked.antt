-- Links that lead to blocks or to none, and links that spell a tree.
use Rattle.std.specs.Prelude.{◌≡◌, ℕ, ◌<◌, ◌≤◌, ◌⊎◌, List, length}
use Rattle.rules.specs.declared.blocks.Children.{Children}
use Rattle.rules.specs.Trees.{count}
use Rattle.rules.specs.Links.{left_of, right_of, tree_of, Spells}

-- a link leads to one of n blocks, or to none
abbrev pub Link : ℕ → ℕ → Type 0
Link n k = (k < n) ⊎ (k ≡ 65535)

-- so does each child number
abbrev pub Linked : List Children → Type 0
Linked cs = (i : ℕ) → i < length cs → Link (length cs) (left_of cs i) × Link (length cs) (right_of cs i)

-- the links spell a tree from the root on, and no block stands in it twice
pub record Treed (cs : List Children) (root : ℕ) : Type 0 where
  pub spelt : Spells (left_of cs) (right_of cs) (length cs) root (tree_of cs root)
  pub once : (k : ℕ) → count k (tree_of cs root) ≤ 1
