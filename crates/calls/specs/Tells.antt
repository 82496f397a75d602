-- What the contract of pack_after tells of short lists of calls.
use Rattle.std.specs.Prelude.{◌≡◌, ℕ, List, [], ◌∷◌, Err, Result}
use Rattle.rules.specs.declared.edits.Edit.{Edit}
use Rattle.rules.specs.Skylines.{Sky}
use Rattle.rules.specs.Book.{Call, test, begin, keep, undo, pack}
use Rattle.packer.specs.declared.spots.Extent.{Extent}
use Rattle.calls.specs.declared.call.Stop.{Stop}
use Rattle.calls.specs.declared.call.Stop.TheVariants.{OutOfTurn}
use Rattle.calls.specs.Runs.{Memory, PackAfter}

-- a list is refused at this call, and nothing is altered
abbrev pub StopsAt : {S : Type 0} → (S → Sky) → ℕ → List Call → Type 0
StopsAt {S} meaning k cs =
    (before after : Memory S) (r : Result Extent Stop) → PackAfter meaning cs before after r → (r ≡ Err (OutOfTurn k)) × (after ≡ before)

-- keep and undo of a settled plan; a test and a second trial inside a trial, behind a packing
pub record PackAfterTells {S : Type 0} (meaning : S → Sky) (e : Edit) : Type 0 where
  pub keep_first : StopsAt meaning 0 (keep ∷ [])
  pub undo_again : StopsAt meaning 2 (begin e ∷ undo ∷ undo ∷ keep ∷ [])
  pub test_in_trial : StopsAt meaning 2 (begin e ∷ pack ∷ test e ∷ [])
  pub begin_in_trial : StopsAt meaning 1 (begin e ∷ begin e ∷ [])
  -- no call but a load alters the walk records of loads
  pub walk_kept : (before after : Memory S) (r : Result Extent Stop) → PackAfter meaning (begin e ∷ pack ∷ undo ∷ []) before after r → after.walk ≡ before.walk

-- so it is for every edit
abbrev pub ListsTell : {S : Type 0} → (S → Sky) → Type 0
ListsTell meaning = (e : Edit) → PackAfterTells meaning e
