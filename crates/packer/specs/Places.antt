-- What placing a block writes, and what room a packing needs.
use Rattle.std.specs.Prelude.{◌≡◌, ℕ, ◌+◌, ◌≤◌, List, ◌++◌, map, drop}
use Rattle.std.specs.List.{range_with_len}
use Rattle.rules.specs.declared.placements.Placement.{Placement}
use Rattle.rules.specs.Trees.{size}
use Rattle.rules.specs.Plans.{Plan, block_count}
use Rattle.rules.specs.Packing.{Rect, packed, reach}
use Rattle.rules.specs.Skylines.{Sky, Largest, Raised}
use Rattle.promises.specs.Packs.{record_of}
use Rattle.packer.specs.declared.spots.Visit.{Visit}

-- the records with those of blocks 0 to n - 1 written: four zeros for a block that is not placed
abbrev pub recorded : List Rect → ℕ → List Placement → List Placement
recorded ps n before = map (record_of ps) (range_with_len 0 n) ++ drop n before

-- A block that the walk comes to rests on the largest height of its columns, and then its top is their height.
pub record Placed (s t : Sky) (v : Visit) (r : Placement) : Type 0 where
  pub at_left : r.x ≡ v.left
  pub wide : r.width ≡ v.size.width
  pub high : r.height ≡ v.size.height
  pub rests : Largest s v.left (v.left + v.size.width) r.y
  pub raised : Raised s t v.left (v.left + v.size.width) (r.y + v.size.height)

-- the walk memory, the records and the skyline are large enough for the plan
pub record Enough (p : Plan) (s : Sky) (walk records : ℕ) : Type 0 where
  pub walk_long : size p.tree ≤ walk
  pub records_long : block_count p ≤ records
  pub columns_wide : reach (packed p) ≤ s.columns
  pub raises_many : size p.tree ≤ s.raises
