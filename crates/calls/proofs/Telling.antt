-- What the contract of pack_after tells of short lists of calls.
use Rattle.std.proofs.Common.{refl, ap, ◌∙◌}
use Rattle.rules.specs.Skylines.{Sky}
use Rattle.calls.specs.Runs.{Memory}
use Rattle.calls.specs.Tells.{ListsTell}

pub lists_tell : {S : Type 0} (meaning : S → Sky) → ListsTell meaning
lists_tell {S} meaning e = record {
  keep_first = λ before after r h. h.refused_out_of_turn 0 refl;
  undo_again = λ before after r h. h.refused_out_of_turn 2 refl;
  test_in_trial = λ before after r h. h.refused_out_of_turn 2 refl;
  begin_in_trial = λ before after r h. h.refused_out_of_turn 1 refl;
  walk_kept = λ before after r h.
      let walk : Memory S → _ = λ m. m.walk in
      let begun = h.performed refl in
      let packed = begun.2 in
      let undone = packed.2 in
      let last = undone.2 in
      ap walk last.2 ∙ last.1.1.walk ∙ ap walk undone.1 ∙ packed.1.1.walk ∙ ap walk begun.1;
}
