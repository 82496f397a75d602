-- What holds of every packing. The example in the comments is the plan of blocks a 4 x 3, b 3 x 2, c 2 x 4, d 2 x 2 and e 5 x 1,
-- with root a, whose left child is b and right child c; b's left child is d and its right child e. Its corners are a (0, 0),
-- b (4, 0), d (7, 0), e (4, 2), c (0, 3).
use Rattle.std.specs.Prelude.{◌≡◌, ℕ, ◌<◌, true, ◌≢◌, List}
use Rattle.rules.specs.declared.edits.Side.TheVariants.{Left, Right}
use Rattle.rules.specs.Trees.{count, Among, Distinct, leftmost, rightmost, right_foot, bottom_right, no_right_child}
use Rattle.rules.specs.Plans.{Plan, Whole, size_at}
use Rattle.rules.specs.Packing.{Rect, right_edge, highest, packed, column}
use Rattle.geometry.specs.Relations.{numbers, ShareNone, Apart, EachStands, StandsOnAnother, Over, Largest, LargestTop, Root, Child}

-- No unit cell lies in two of the placed blocks.
abbrev pub NoOverlap : Type 0
NoOverlap = (p : Plan) → Apart (packed p)

-- The same by numbers: placed blocks with different numbers share no cell.
abbrev pub NoOverlapByNumber : Type 0
NoOverlapByNumber =
    (p : Plan) (q r : Rect) → Among q (packed p) → Among r (packed p) → q.block ≢ r.block → ShareNone q r

-- Each placed block stands on the floor or on a block placed before it. In the example a, b and d stand on the floor, e on b
-- and c on a.
abbrev pub AllStand : Type 0
AllStand = (p : Plan) → EachStands (packed p)

-- The same by numbers: each stands on the floor or on a placed block with another number.
abbrev pub AllStandByNumber : Type 0
AllStandByNumber = (p : Plan) → Whole p → (q : Rect) → Among q (packed p) → StandsOnAnother (packed p) q

-- The height on which a block from a to b comes to rest is the largest column height there: what is said of blocks
-- (`highest`) agrees with what is said of columns. In the example it is 7 from 0 to 4, the height of the columns 0 and 1.
abbrev pub HighestOfColumns : Type 0
HighestOfColumns = (ps : List Rect) (a b : ℕ) → a < b → Largest (column ps) a b (highest ps a b)

-- The height of a column is the largest top of the blocks over it. In the example column 1 has height 7, the top of c.
abbrev pub ColumnOfTops : Type 0
ColumnOfTops = (ps : List Rect) (c : ℕ) → LargestTop ps c (column ps c)

-- The blocks of the leftmost branch stand on the floor: a, b and d in the example.
abbrev pub LeftmostOnFloor : Type 0
LeftmostOnFloor =
    (p : Plan) → Whole p → (q : Rect) → Among q (packed p) → Among q.block (leftmost p.tree) → q.y ≡ 0

-- The blocks of the rightmost branch stand at the left edge: a and c in the example.
abbrev pub RightmostAtLeft : Type 0
RightmostAtLeft =
    (p : Plan) → Whole p → (q : Rect) → Among q (packed p) → Among q.block (rightmost p.tree) → q.x ≡ 0

-- Nothing stands over the blocks of the bottom-right branch, if none of them has a right child and no present block is flat.
-- In the example that branch is c alone.
abbrev pub BottomRightFree : Type 0
BottomRightFree =
    (p : Plan) → Whole p → ((i : ℕ) → 0 < count i p.tree → 0 < (size_at p.sizes i).height)
    → no_right_child (right_foot p.tree) ≡ true
    → (q : Rect) → Among q (packed p) → Among q.block (bottom_right p.tree)
    → (r : Rect) → Among r (packed p) → Over r q → ⊥

-- The left edges follow the tree: the root stands at x 0, a left child at its parent's right edge, a right child at its
-- parent's left edge. In the example b is at 4, the right edge of a, e at 4 with b, and d at 7, the right edge of b.
pub record EdgesFollow (p : Plan) : Type 0 where
  pub root : (q : Rect) → Among q (packed p) → Root p.tree q.block → q.x ≡ 0
  pub left : (q r : Rect) → Among q (packed p) → Among r (packed p) → Child Left p.tree q.block r.block → r.x ≡ right_edge q
  pub right : (q r : Rect) → Among q (packed p) → Among r (packed p) → Child Right p.tree q.block r.block → r.x ≡ q.x

-- so it is in every plan with each present block once
abbrev pub EdgesOfChildren : Type 0
EdgesOfChildren = (p : Plan) → Whole p → EdgesFollow p

-- The placed blocks are the present ones, each once, in the plan's sizes.
pub record PlacesPresent (p : Plan) : Type 0 where
  pub once : Whole p → Distinct (numbers (packed p))
  pub all : (k : ℕ) → 0 < count k p.tree → Among k (numbers (packed p))
  pub only : (k : ℕ) → Among k (numbers (packed p)) → 0 < count k p.tree
  pub widths : (q : Rect) → Among q (packed p) → q.width ≡ (size_at p.sizes q.block).width
  pub heights : (q : Rect) → Among q (packed p) → q.height ≡ (size_at p.sizes q.block).height

-- so it is in every plan
abbrev pub PackedBlocks : Type 0
PackedBlocks = (p : Plan) → PlacesPresent p
