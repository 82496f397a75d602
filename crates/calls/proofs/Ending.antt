-- The packing behind a list of calls: no call alters the columns and the raises of the skyline, so it is refused or accepted as it
-- would have been at first.
use Rattle.std.proofs.Common.{◌≡◌, ℕ, List, [], ◌∷◌, length, Some, None, Ok, Err, Option, Result, sym, refl, ap, ◌∙◌, subst, ◌≢◌}
use Rattle.rules.specs.declared.placements.Placement.{Placement}
use Rattle.rules.specs.declared.refusals.Refusal.{Refusal}
use Rattle.rules.specs.Plans.{Plan}
use Rattle.rules.specs.Skylines.{Sky}
use Rattle.rules.specs.Refusals.{answered}
use Rattle.rules.specs.Book.{Call, load, test, begin, keep, undo, pack, Book, new_book, book_plan, fed, book, settled, out_of_turn, state_after}
use Rattle.promises.specs.Packs as packs
use Rattle.packer.specs.declared.spots.Extent.{Extent}
use Rattle.packer.specs.declared.spots.Spot.{Spot}
use Rattle.packer.specs.Gives.{extent_of, PackGives}
use Rattle.promises.specs.Promise.{Promise}
use Rattle.calls.specs.declared.call.Stop.{Stop}
use Rattle.calls.specs.declared.call.Stop.TheVariants.{OutOfTurn, Refused}
use Rattle.calls.specs.Turns.{first_out, turned}
use Rattle.calls.specs.Runs.{Memory, PackLeaves, CallLeaves, Performed, ended, PackAfter}
use Rattle.calls.proofs.Turning.{settled_open, in_turn, not_in_turn}
use Rattle.calls.proofs.Running.{performed_snoc}

-- the same number of columns, and of raises when cleared
record Alike (s t : Sky) : Type 0 where
  columns : t.columns ≡ s.columns
  raises : t.raises ≡ s.raises

alike_same : {S : Type 0} (meaning : S → Sky) {a b : S} → b ≡ a → Alike (meaning a) (meaning b)
alike_same meaning e = record { columns = ap (λ s. (meaning s).columns) e; raises = ap (λ s. (meaning s).raises) e }

pack_alike : {S : Type 0} (meaning : S → Sky) (p : Plan) (before after : S) (sp sp' : List Spot) (ps ps' : List Placement) (r : Result Extent Refusal)
    → PackGives meaning p before after sp sp' ps ps' r → Alike (meaning before) (meaning after)
pack_alike meaning p before after sp sp' ps ps' (Ok x) h = record { columns = (h.skyline x refl).columns; raises = (h.skyline x refl).raises }
pack_alike meaning p before after sp sp' ps ps' (Err e) h = alike_same meaning (h.skyline_kept e refl)

call_alike : {S : Type 0} (meaning : S → Sky) (p : Plan) (c : Call) (m n : Memory S) → CallLeaves meaning p c m n → Alike (meaning m.skyline) (meaning n.skyline)
call_alike meaning p (load g) m n h = alike_same meaning h.skyline
call_alike meaning p (test e) m n h = alike_same (λ x. meaning x.skyline) h
call_alike meaning p (begin e) m n h = alike_same (λ x. meaning x.skyline) h
call_alike meaning p keep m n h = alike_same (λ x. meaning x.skyline) h
call_alike meaning p undo m n h = alike_same (λ x. meaning x.skyline) h
call_alike meaning p pack m n h = pack_alike meaning p m.skyline n.skyline m.spots n.spots m.places n.places h.0 h.1.gives

calls_alike : {S : Type 0} (meaning : S → Sky) (b : Book) (cs : List Call) (m n : Memory S) → Performed meaning b cs m n → Alike (meaning m.skyline) (meaning n.skyline)
calls_alike meaning b [] m n h = alike_same (λ x. meaning x.skyline) h
calls_alike meaning b (c ∷ cs) m n h =
    let one = call_alike meaning (book_plan b) c m h.0 h.1 in
    let rest = calls_alike meaning (fed b c) cs h.0 n h.2 in
    record { columns = rest.columns ∙ one.columns; raises = rest.raises ∙ one.raises }

refusal_alike : (p : Plan) (s t : Sky) (spots places : ℕ) → Alike s t → packs.pack_refusal p t spots places ≡ packs.pack_refusal p s spots places
unfolding packs.pack_refusal
refusal_alike p s t spots places h = cc

-- the packing's answer as that of the whole
abbrev pub as_stop : Result Extent Refusal → Result Extent Stop
as_stop (Ok x) = Ok x
as_stop (Err e) = Err (Refused e)

ended_answered : (o : Option Refusal) (x : Extent) → as_stop (answered o x) ≡ ended o x
ended_answered None x = refl
ended_answered (Some e) x = refl

accepted_both : (r : Result Extent Refusal) (x : Extent) → as_stop r ≡ Ok x → r ≡ Ok x
accepted_both (Ok y) x e = cc
accepted_both (Err y) x e = cc

not_found : {o : Option ℕ} {k : ℕ} → o ≡ None → o ≡ Some k → ⊥
not_found n e = cc

-- what the test of the turns found
turned_ok : (o : Option ℕ) → Ok tt ≡ turned o → o ≡ None
turned_ok None h = refl
turned_ok (Some k) h = cc

pub in_turn_none : (cs : List Call) → Ok tt ≡ turned (first_out settled 0 cs) → first_out settled 0 cs ≡ None
in_turn_none cs h = turned_ok (first_out settled 0 cs) h

pub stays_in_turn : (cs : List Call) → Ok tt ≡ turned (first_out settled 0 cs) → state_after cs ≢ out_of_turn
stays_in_turn cs h = in_turn settled 0 cs settled_open (in_turn_none cs h)

-- the calls are performed, then the plan in their book is packed
module _ {S : Type 0} (meaning : S → Sky) (cs : List Call) (first before after : Memory S) where
  pub in_turn_gives : first_out settled 0 cs ≡ None → Performed meaning new_book cs first before
      → length before.spots ≡ length first.spots → length before.places ≡ length first.places
      → (r : Result Extent Refusal) → PackLeaves meaning (book_plan (book cs)) before after r
      → ((x : Extent) → r ≡ Ok x → Promise cs x.width x.height after.places (meaning after.skyline))
      → {out : Result Extent Stop} → out ≡ as_stop r → PackAfter meaning cs first after out
  in_turn_gives none done spots places r leaves promise {out} is =
      let p = book_plan (book cs) in
      let before_by = packs.pack_refusal p (meaning before.skyline) (length before.spots) (length before.places) in
      let first_by = packs.pack_refusal p (meaning first.skyline) (length first.spots) (length first.places) in
      let same : before_by ≡ first_by = ap (λ k. packs.pack_refusal p (meaning before.skyline) k (length before.places)) spots
      ∙ ap (packs.pack_refusal p (meaning before.skyline) (length first.spots)) places
      ∙ refusal_alike p (meaning first.skyline) (meaning before.skyline) (length first.spots) (length first.places) (calls_alike meaning new_book cs first before done) in
      record {
        refused_out_of_turn = λ k e. absurd (not_found none e);
        only_out_of_turn = λ k e. absurd (not_found none e);
        in_turn = λ e. in_turn settled 0 cs settled_open e;
        answer = λ e. is ∙ ap as_stop leaves.gives.answer ∙ ended_answered before_by (extent_of p) ∙ ap (λ o. ended o (extent_of p)) same;
        performed = λ e. performed_snoc meaning new_book cs pack first before after done (r, leaves);
        promise = λ x e. promise x (accepted_both r x (sym is ∙ e));
      }

-- nothing is performed
module _ {S : Type 0} (meaning : S → Sky) (cs : List Call) (first : Memory S) where
  stopped : (o : Option ℕ) → first_out settled 0 cs ≡ o → (s : Stop) → Err s ≡ turned o → PackAfter meaning cs first first (Err s)
  stopped None found s h = cc
  stopped (Some k) found s h = record {
    refused_out_of_turn = λ j e. ((let z : Err s ≡ Err (OutOfTurn j) = cc in z), refl);
    only_out_of_turn = λ j e. not_in_turn settled 0 cs j e;
    in_turn = λ none. absurd (not_found none found);
    answer = λ none. absurd (not_found none found);
    performed = λ none. absurd (not_found none found);
    promise = λ x e. cc;
  }

  pub out_of_turn_gives : (s : Stop) → Err s ≡ turned (first_out settled 0 cs) → {out : Result Extent Stop} → out ≡ Err s → PackAfter meaning cs first first out
  out_of_turn_gives s h is = subst (PackAfter meaning cs first first) (sym is) (stopped (first_out settled 0 cs) refl s h)
