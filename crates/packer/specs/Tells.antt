-- What the contract of pack tells of a call with no walk memory.
use Rattle.std.specs.Prelude.{◌≡◌, ◌<◌, List, [], Err, Result}
use Rattle.rules.specs.declared.placements.Placement.{Placement}
use Rattle.rules.specs.declared.refusals.Refusal.{Refusal}
use Rattle.rules.specs.declared.refusals.Refusal.TheVariants.{MemoryTooShort}
use Rattle.rules.specs.Plans.{Plan}
use Rattle.rules.specs.Skylines.{Sky}
use Rattle.promises.specs.Packs.{present_count}
use Rattle.packer.specs.declared.spots.Extent.{Extent}
use Rattle.packer.specs.declared.spots.Spot.{Spot}
use Rattle.packer.specs.Gives.{PackGives}

-- a plan with a present block, packed with no walk memory, is refused with 18, and all that was lent is as it was
pub record RefusedWithoutWalk {S : Type 0} (meaning : S → Sky) (p : Plan) (before after : S) (spots : List Spot)
    (places_before places_after : List Placement) (r : Result Extent Refusal) : Type 0 where
  pub answer : r ≡ Err MemoryTooShort
  pub skyline : after ≡ before
  pub walk : spots ≡ []
  pub places : places_after ≡ places_before

-- so it is for every plan
abbrev pub PackTells : {S : Type 0} → (S → Sky) → Type 0
PackTells {S} meaning =
    (p : Plan) (before after : S) (spots : List Spot) (places_before places_after : List Placement)
    (r : Result Extent Refusal) → 0 < present_count p → PackGives meaning p before after [] spots places_before places_after r
    → RefusedWithoutWalk meaning p before after spots places_before places_after r
