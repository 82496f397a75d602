-- What pack answers, and what it leaves.
use Rattle.std.specs.Prelude.{◌≡◌, ℕ, ◌+◌, ◌<◌, cond, ◌||◌, List, [], ◌∷◌, ◌++◌, map, take, drop, None, Option, ◌==◌, nat_lt}
use Rattle.std.specs.List.{range_with_len}
use Rattle.rules.specs.declared.placements.Placement.{Placement}
use Rattle.rules.specs.declared.refusals.Refusal.{Refusal}
use Rattle.rules.specs.declared.refusals.Refusal.TheVariants.{MemoryTooShort, ReachTooWide, TooFewRaises, TopTooHigh}
use Rattle.rules.specs.Refusals.{when}
use Rattle.rules.specs.Trees.{size}
use Rattle.rules.specs.Plans.{Plan, block_count}
use Rattle.rules.specs.Packing.{Rect, packed, reach, height, column}
use Rattle.rules.specs.Skylines.{Sky}

-- the record of an absent block: four zeros
abbrev pub nowhere : Placement
nowhere = record { x = 0; y = 0; width = 0; height = 0 }

-- the record of block i among the placed blocks
abbrev pub record_of : List Rect → ℕ → Placement
record_of [] i = nowhere
record_of (p ∷ ps) i = cond (p.block == i) (record { x = p.x; y = p.y; width = p.width; height = p.height }) (record_of ps i)

-- one record a block, in number order
abbrev pub placements : Plan → List Placement
placements p = map (record_of (packed p)) (range_with_len 0 (block_count p))

-- how many blocks are present
abbrev pub present_count : Plan → ℕ
present_count p = size p.tree

-- The first refusal of a packing with so many walk records and placement records: 18, 26, 27, 25.
unfoldable pub pack_refusal : Plan → Sky → ℕ → ℕ → Option Refusal
pack_refusal p s walk records =
    when (nat_lt walk (present_count p) || nat_lt records (block_count p)) MemoryTooShort
    (when (nat_lt s.columns (reach (packed p))) ReachTooWide
    (when (nat_lt s.raises (present_count p)) TooFewRaises
    (when (nat_lt 134217728 (height (packed p))) TopTooHigh None)))

-- the placement records after an accepted packing: those behind the last block are as they were
abbrev pub with_placements : Plan → List Placement → List Placement
with_placements p before = placements p ++ drop (block_count p) before

-- the skyline after an accepted packing: each column has the height that the packing gives it
pub record Under (p : Plan) (s t : Sky) : Type 0 where
  pub columns : t.columns ≡ s.columns
  pub raises : t.raises ≡ s.raises
  pub left : t.left + present_count p ≡ s.raises
  pub height : (c : ℕ) → c < s.columns → t.height c ≡ column (packed p) c

-- records, width and height are those that packing gives for the plan
pub record Packs (p : Plan) (width high : ℕ) (rs : List Placement) : Type 0 where
  pub records : take (block_count p) rs ≡ placements p
  pub width_is : width ≡ reach (packed p)
  pub height_is : high ≡ height (packed p)
