-- What is found along a branch, by its blocks in turn.
use Rattle.std.proofs.Common.{◌≡◌, ℕ, ◌||◌, ◌&&◌, List, [], ◌∷◌, Some, None, eqb, refl, sym, ap, ◌∙◌, map-id}
use Rattle.std.specs.List.{list_any, list_all, last_or}
use Rattle.std.specs.Option.{unwrap_or}
use Rattle.std.specs.Iterator.{YieldsFirst, Drains}
use Rattle.std.proofs.lemmas.Iterator.{YieldsList}
use Rattle.std.proofs.lemmas.Iterator.Consumers.{YieldsList-from_first, YieldsList-end}
use Rattle.rules.specs.declared.edits.Side.{Side}
use Rattle.rules.specs.Sides.{child_on}
use Rattle.rules.specs.Letters.{among}
use Rattle.table.specs.declared.blocks.Block.{Block}
use Rattle.table.specs.declared.branches.Branch.{Branch}
use Rattle.table.specs.Tables.{at}
use Rattle.table.specs.Branches.{childless, last_from, end_of}
use Rattle.table.specs.Walks.{ahead}

pub walks : (b : Branch) (is : List ℕ) → ahead b ≡ is → YieldsList (YieldsFirst ahead) (λ (k : ℕ). k) b is
walks b is e = YieldsList-from_first (λ (k : ℕ). k) ahead is e

pub any_among : (i : ℕ) (is : List ℕ) → list_any (λ k. eqb i k) is ≡ among i is
unfolding among
any_among i [] = refl
any_among i (k ∷ ks) = ap (λ b. eqb i k || b) (any_among i ks)

pub all_childless : (s : Side) (bs : List Block) (is : List ℕ) → list_all (λ k. eqb (child_on s (at bs k).children) 65535) is ≡ childless s bs is
unfolding childless
all_childless s bs [] = refl
all_childless s bs (k ∷ ks) = ap (λ b. eqb (child_on s (at bs k).children) 65535 && b) (all_childless s bs ks)

last_some : (k : ℕ) (is : List ℕ) → last_or (Some k) is ≡ Some (last_from k is)
unfolding last_from
last_some k [] = refl
last_some k (i ∷ is) = last_some i is

pub last_end : (is : List ℕ) → unwrap_or (last_or None is) 65535 ≡ end_of is
unfolding last_from
last_end [] = refl
last_end (i ∷ is) = ap (λ o. unwrap_or o 65535) (last_some i is)

-- all of a walk is what it had ahead
pub drained : (b : Branch) (is xs : List ℕ) → ahead b ≡ is → Drains (YieldsFirst ahead) b xs → xs ≡ is
drained b is xs e d = sym (map-id xs) ∙ (YieldsList-end (walks b is e) xs d.1.0 d.1.1 None d.0 refl d.1.2).0
