-- How placed blocks and blocks of a tree lie to one another.
use Rattle.std.specs.Prelude.{◌≡◌, ℕ, ◌<◌, ◌≤◌, ◌≢◌, ◌⊎◌, List, [], ◌∷◌, map}
use Rattle.rules.specs.declared.edits.Side.{Side}
use Rattle.rules.specs.declared.edits.Side.TheVariants.{Left, Right}
use Rattle.rules.specs.Trees.{Tree, empty, node, Among}
use Rattle.rules.specs.Packing.{Rect, right_edge, top}

-- the numbers of the placed blocks, in the same order
abbrev pub numbers : List Rect → List ℕ
numbers ps = map (λ (p : Rect). p.block) ps

-- column c, the strip from x = c to c + 1, lies in p's span
pub record Spans (p : Rect) (c : ℕ) : Type 0 where
  pub starts : p.x ≤ c
  pub ends : c < right_edge p

-- the unit cell with lower left corner (c, r) lies in p
pub record Holds (p : Rect) (c r : ℕ) : Type 0 where
  pub across : Spans p c
  pub from_bottom : p.y ≤ r
  pub to_top : r < top p

-- the spans of p and q have a column in common
pub record Meets (p q : Rect) : Type 0 where
  pub shared : ℕ
  pub of_first : Spans p shared
  pub of_second : Spans q shared

-- p stands on q: their spans meet, and p begins where q ends
pub record On (p q : Rect) : Type 0 where
  pub meets : Meets p q
  pub touches : p.y ≡ top q

-- p stands over q, on it or higher
pub record Over (p q : Rect) : Type 0 where
  pub meets : Meets p q
  pub above : top q ≤ p.y

-- no unit cell lies in both
abbrev pub ShareNone : Rect → Rect → Type 0
ShareNone p q = (c r : ℕ) → Holds p c r → Holds q c r → ⊥

-- no two blocks of the list share a cell
abbrev pub Apart : List Rect → Type 0
Apart [] = Unit {0}
Apart (p ∷ ps) = ((q : Rect) → Among q ps → ShareNone p q) × Apart ps

-- p stands on the floor or on a block of the list
abbrev pub Stands : List Rect → Rect → Type 0
Stands ps p = (p.y ≡ 0) ⊎ ((q : Rect) × Among q ps × On p q)

-- each block stands on the floor or on a block behind it in the list
abbrev pub EachStands : List Rect → Type 0
EachStands [] = Unit {0}
EachStands (p ∷ ps) = Stands ps p × EachStands ps

-- p stands on the floor or on a block of the list with another number
abbrev pub StandsOnAnother : List Rect → Rect → Type 0
StandsOnAnother ps p = (p.y ≡ 0) ⊎ ((q : Rect) × Among q ps × (q.block ≢ p.block) × On p q)

-- h is the largest value of f at the columns a to b - 1
pub record Largest (f : ℕ → ℕ) (a b h : ℕ) : Type 0 where
  pub bounds : (c : ℕ) → a ≤ c → c < b → f c ≤ h
  pub met_at : ℕ
  pub from_a : a ≤ met_at
  pub to_b : met_at < b
  pub is_met : f met_at ≡ h

-- h is the largest top of the blocks whose span holds column c, and 0 if there is none
pub record LargestTop (ps : List Rect) (c h : ℕ) : Type 0 where
  pub bounds : (p : Rect) → Among p ps → Spans p c → top p ≤ h
  pub reached : (h ≡ 0) ⊎ ((p : Rect) × Among p ps × Spans p c × (top p ≡ h))

-- block i is the root of the tree
abbrev pub Root : Tree → ℕ → Type 0
Root empty i = ⊥
Root (node k l r) i = i ≡ k

-- of the two subtrees l and r, the one on that side
abbrev pub on_side : Side → Tree → Tree → Tree
on_side Left l r = l
on_side Right l r = r

-- block j is the child of block i on that side: i stands at some place of the tree, with j as the root of the subtree there
abbrev pub Child : Side → Tree → ℕ → ℕ → Type 0
Child s empty i j = ⊥
Child s (node k l r) i j = ((i ≡ k) × Root (on_side s l r) j) ⊎ (Child s l i j ⊎ Child s r i j)
