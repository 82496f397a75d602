-- What every accepted packing shows, whatever calls the plan has had since new.
use Rattle.std.specs.Prelude.{◌≡◌, ℕ, List, [], ◌∷◌, ◌++◌, Ok, Result}
use Rattle.rules.specs.declared.placements.Placement.{Placement}
use Rattle.rules.specs.declared.refusals.Refusal.{Refusal}
use Rattle.rules.specs.Plans.{Plan}
use Rattle.rules.specs.Skylines.{Sky}
use Rattle.rules.specs.Book.{Call, pack, Settles, Tries}
use Rattle.promises.specs.Promise.{Promise}
use Rattle.packer.specs.declared.spots.Extent.{Extent}

-- For every list of calls that led to the plan p in hand, settled or in an open trial: the packing goes on that list, and if it
-- is accepted, the whole promise holds of the records, the answered width and height, and the skyline as handed back.
pub record PackShows (p : Plan) (t : Sky) (places : List Placement) (r : Result Extent Refusal) : Type 0 where
  pub settled : (cs : List Call) (kept : ℕ) → Settles cs p kept
      → Settles (cs ++ (pack ∷ [])) p kept × ((x : Extent) → r ≡ Ok x → Promise cs x.width x.height places t)
  pub tried : (cs : List Call) (before : Plan) (kept_next kept : ℕ) → Tries cs p before kept_next kept
      → Tries (cs ++ (pack ∷ [])) p before kept_next kept × ((x : Extent) → r ≡ Ok x → Promise cs x.width x.height places t)
