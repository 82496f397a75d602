-- Packing as a relation, with no steps in it.
use Rattle.std.specs.Prelude.{◌≡◌, ℕ, ◌+◌, ◌≤◌, ◌⊎◌, List, [], ◌∷◌, length}
use Rattle.rules.specs.declared.placements.Placement.{Placement}
use Rattle.rules.specs.declared.edits.Side.TheVariants.{Left, Right}
use Rattle.rules.specs.Trees.{Tree, Among, count, blocks}
use Rattle.rules.specs.Packing.{packed, reach as reach_of, height as height_of}
use Rattle.rules.specs.Plans.{Plan, block_count, size_at}
use Rattle.geometry.specs.Relations.{Root, Child}
use Rattle.promises.specs.Packs.{nowhere, placements}
use Rattle.promises.specs.Promise.{at, Meets}

-- i stands before j in the list
abbrev pub Before : ℕ → ℕ → List ℕ → Type 0
Before i j [] = ⊥
Before i j (k ∷ ks) = ((i ≡ k) × Among j ks) ⊎ Before i j ks

-- the top of a record
abbrev pub top_of : Placement → ℕ
top_of r = r.y + r.height

-- y is the largest top of the blocks earlier in depth-first order whose span meets that of block j, 0 if there is none
pub record Rests (t : Tree) (rs : List Placement) (j y : ℕ) : Type 0 where
  pub bounds : (i : ℕ) → Before i j (blocks t) → Meets (at rs i) (at rs j) → top_of (at rs i) ≤ y
  pub reached : (y ≡ 0) ⊎ ((i : ℕ) × Before i j (blocks t) × Meets (at rs i) (at rs j) × (top_of (at rs i) ≡ y))

-- w is the largest of f over the present blocks, 0 if there are none
pub record LargestOf (t : Tree) (f : ℕ → ℕ) (w : ℕ) : Type 0 where
  pub bounds : (i : ℕ) → Among i (blocks t) → f i ≤ w
  pub reached : (w ≡ 0) ⊎ ((i : ℕ) × Among i (blocks t) × (f i ≡ w))

-- Records, width and height of a packing of p: one record a block; four zeros for an absent one; the size of a present one; x of
-- a child by its parent; y the largest top of the blocks before whose spans meet; the reach; the largest top.
pub record Packing (p : Plan) (width height : ℕ) (rs : List Placement) : Type 0 where
  pub long : length rs ≡ block_count p
  pub absent : (i : ℕ) → count i p.tree ≡ 0 → at rs i ≡ nowhere
  pub sized : (i : ℕ) → Among i (blocks p.tree) → ((at rs i).width ≡ (size_at p.sizes i).width) × ((at rs i).height ≡ (size_at p.sizes i).height)
  pub root : (i : ℕ) → Root p.tree i → (at rs i).x ≡ 0
  pub left : (i j : ℕ) → Child Left p.tree i j → (at rs j).x ≡ (at rs i).x + (at rs i).width
  pub right : (i j : ℕ) → Child Right p.tree i j → (at rs j).x ≡ (at rs i).x
  pub rests : (j : ℕ) → Among j (blocks p.tree) → Rests p.tree rs j (at rs j).y
  pub reach : LargestOf p.tree (λ i. (at rs i).x + (at rs i).width) width
  pub highest : LargestOf p.tree (λ i. top_of (at rs i)) height

-- Exactly one set of records, width and height meets it: the one that packing gives.
pub record PackingIsOne (p : Plan) : Type 0 where
  pub given : Packing p (reach_of (packed p)) (height_of (packed p)) (placements p)
  pub only : (width height : ℕ) (rs : List Placement) → Packing p width height rs
      → (rs ≡ placements p) × (width ≡ reach_of (packed p)) × (height ≡ height_of (packed p))
