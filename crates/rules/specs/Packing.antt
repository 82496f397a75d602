-- Where the blocks of a tree come to stand, said of blocks alone.
use Rattle.std.specs.Prelude.{ℕ, ◌+◌, min, max, Bool, cond, List, [], ◌∷◌, ◌++◌, nat_lt}
use Rattle.rules.specs.declared.blocks.Size.{Size}
use Rattle.rules.specs.Trees.{Tree, empty, node}
use Rattle.rules.specs.Plans.{Plan, size_at}

-- a block with its left edge
pub record Spot : Type 0 where
  pub block : ℕ
  pub left : ℕ

-- Depth-first order with left edges: the block, its left subtree from the block's right edge on, its right subtree from
-- the block's left edge on.
abbrev pub spots : List Size → Tree → ℕ → List Spot
spots sizes empty x = []
spots sizes (node i l r) x =
    record { block = i; left = x } ∷ (spots sizes l (x + (size_at sizes i).width) ++ spots sizes r x)

-- a placed block: its number, lower left corner and size
pub record Rect : Type 0 where
  pub block : ℕ
  pub x : ℕ
  pub y : ℕ
  pub width : ℕ
  pub height : ℕ

-- x plus width
abbrev pub right_edge : Rect → ℕ
right_edge p = p.x + p.width

-- y plus height
abbrev pub top : Rect → ℕ
top p = p.y + p.height

-- the half-open spans [a, b) and [c, d) have a column in common
abbrev pub meet : ℕ → ℕ → ℕ → ℕ → Bool
meet a b c d = nat_lt (max a c) (min b d)

-- the largest top of the blocks whose span meets [a, b); 0 if there is none
abbrev pub highest : List Rect → ℕ → ℕ → ℕ
highest [] a b = 0
highest (p ∷ ps) a b = max (cond (meet p.x (right_edge p) a b) (top p) 0) (highest ps a b)

-- the block of a spot, resting on the blocks placed before it
abbrev pub rest_on : List Size → List Rect → Spot → Rect
rest_on sizes placed s = record {
  block = s.block;
  x = s.left;
  y = highest placed s.left (s.left + (size_at sizes s.block).width);
  width = (size_at sizes s.block).width;
  height = (size_at sizes s.block).height;
}

-- one spot after the other; the block placed last stands first
abbrev pub settle : List Size → List Rect → List Spot → List Rect
settle sizes placed [] = placed
settle sizes placed (s ∷ ss) = settle sizes (rest_on sizes placed s ∷ placed) ss

-- the placed blocks of a plan, in depth-first order backwards
abbrev pub packed : Plan → List Rect
packed p = settle p.sizes [] (spots p.sizes p.tree 0)

-- the reach, which is the plan's width: the largest right edge
abbrev pub reach : List Rect → ℕ
reach [] = 0
reach (p ∷ ps) = max (right_edge p) (reach ps)

-- the plan's height: the largest top
abbrev pub height : List Rect → ℕ
height [] = 0
height (p ∷ ps) = max (top p) (height ps)

-- the height of column c, the strip from x = c to c + 1
abbrev pub column : List Rect → ℕ → ℕ
column ps c = highest ps c (c + 1)
