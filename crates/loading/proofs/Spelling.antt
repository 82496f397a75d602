-- Links that passed their tests, none of them to a block named twice, spell a tree.
use Rattle.std.proofs.Common.{◌≡◌, ℕ, Bool, List, ◌∷◌, length, None}
use Rattle.rules.specs.Loads.{first, named_twice}
use Rattle.loading.specs.declared.links.Links.{Links}
use Rattle.loading.specs.Linked.{Treed}
use Rattle.loading.proofs.Trees.{linked, rooted, treed}
use Rattle.loading.proofs.Walking.{Walking, Turn, turn}

pub spelling : (l : Links) → first (named_twice l.children.now l.root) 0 (length l.children.now) ≡ None → Treed l.children.now l.root
spelling l once = treed l.children.now l.root l.few (linked l.children.now l.linked) (rooted _ _ l.rooted) once

-- a turn of the walk over such links
pub turning : (l : Links) {e : ℕ} {es os : List ℕ} {reached : List Bool} → first (named_twice l.children.now l.root) 0 (length l.children.now) ≡ None
    → length reached ≡ 512 → Walking l.children.now l.root os reached → os ≡ e ∷ es → Turn l.children.now l.few l.root e es reached
turning l once = turn l.children.now l.few (spelling l once)
