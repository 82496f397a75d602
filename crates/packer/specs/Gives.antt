-- What a packing answers, and what it leaves in the caller's memory.
use Rattle.std.specs.Prelude.{◌≡◌, ℕ, List, length, Some, None, Ok, Err, Result, ◌≢◌}
use Rattle.rules.specs.declared.placements.Placement.{Placement}
use Rattle.rules.specs.declared.refusals.Refusal.{Refusal}
use Rattle.rules.specs.declared.refusals.Refusal.TheVariants.{MemoryTooShort, TopTooHigh}
use Rattle.rules.specs.Refusals.{answered}
use Rattle.rules.specs.Plans.{Plan}
use Rattle.rules.specs.Packing.{packed, reach, height}
use Rattle.rules.specs.Skylines.{Sky}
use Rattle.promises.specs.Packs.{pack_refusal, with_placements, Under}
use Rattle.packer.specs.declared.spots.Extent.{Extent}
use Rattle.packer.specs.declared.spots.Spot.{Spot}
use Rattle.packer.specs.Places.{Enough}

-- The tests of a packing give the reach, or the first refusal. It is never 25, since 512 blocks of height 131,072 have no top over
-- 67,108,864. The walk memory is as it was if it is 18.
abbrev pub Tested : Plan → Sky → List Spot → List Spot → ℕ → Result ℕ Refusal → Type 0
Tested p s walk_before walk_after records (Ok w) =
    (pack_refusal p s (length walk_before) records ≡ None) × Enough p s (length walk_before) records × (w ≡ reach (packed p))
Tested p s walk_before walk_after records (Err e) =
    (pack_refusal p s (length walk_before) records ≡ Some e) × (e ≢ TopTooHigh) × (e ≡ MemoryTooShort → walk_after ≡ walk_before)

-- the width and the height of a plan
abbrev pub extent_of : Plan → Extent
extent_of p = record { width = reach (packed p); height = height (packed p) }

-- A packing of p answers its width and height, or its first refusal, which is never 25. Accepted, it leaves one record a block, with
-- the records behind them as they were, and each column at the height that the packing gives it. Refused, it leaves records
-- and skyline as they were, and with 18 the walk memory too.
pub record PackGives {S : Type 0} (meaning : S → Sky) (p : Plan) (before after : S) (walk_before walk_after : List Spot)
    (places_before places_after : List Placement) (r : Result Extent Refusal) : Type 0 where
  pub answer : r ≡ answered (pack_refusal p (meaning before) (length walk_before) (length places_before)) (extent_of p)
  pub never_too_high : r ≡ Err TopTooHigh → ⊥
  pub records : (x : Extent) → r ≡ Ok x → places_after ≡ with_placements p places_before
  pub skyline : (x : Extent) → r ≡ Ok x → Under p (meaning before) (meaning after)
  pub records_kept : (e : Refusal) → r ≡ Err e → places_after ≡ places_before
  pub skyline_kept : (e : Refusal) → r ≡ Err e → after ≡ before
  pub walk_kept : r ≡ Err MemoryTooShort → walk_after ≡ walk_before
