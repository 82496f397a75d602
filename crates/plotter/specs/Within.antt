-- How far the blocks of a plan reach, and what that says of their places.
use Rattle.std.specs.Prelude.{ℕ, ◌<◌, ◌≤◌, List}
use Rattle.rules.specs.declared.placements.Placement.{Placement}
use Rattle.rules.specs.Plans.{Plan}
use Rattle.rules.specs.Packing.{packed, reach, height}
use Rattle.promises.specs.Promise.{at, Placed}
use Rattle.writer.specs.Readings.{Short}

-- the plan is no wider and no higher than 512 of the largest blocks
pub record Within (p : Plan) : Type 0 where
  pub near : reach (packed p) ≤ 67108864
  pub low : height (packed p) ≤ 67108864

-- the first n places are those of present blocks, and every x and y has at most 9 digits
pub record Seen (ps : List Placement) (n : ℕ) : Type 0 where
  pub present : (i : ℕ) → i < n → Placed (at ps i)
  pub short : Short ps
