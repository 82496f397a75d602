-- Calls that leave no trace, left out.
use Rattle.std.proofs.Common.{◌≡◌, ◌≢◌, List, ◌∷◌, Some, None, Option, sym, refl, ap, ◌∙◌}
use Rattle.rules.specs.declared.edits.Edit.{Edit}
use Rattle.rules.specs.declared.refusals.Refusal.{Refusal}
use Rattle.rules.specs.Edits.{edit_refusal}
use Rattle.rules.specs.Book.{Call, begin, keep, undo, Book, new_book, book_plan, after_load, after_begin, fed, book_from, State, settled, tried, out_of_turn, next, state_from}
use Rattle.theorems.specs.Histories.{Ended, at_end, past_pack, Without, done, stays, no_load, no_test, no_pack, no_undone, no_empty, LeavingOut}
use Rattle.theorems.proofs.Books.{Shut, shut_next, out_of_turn_stays, in_force_shut}

ended_state : {end : Call} {cs rest : List Call} → next tried end ≡ settled → Ended end cs rest → state_from tried cs ≡ state_from settled rest
ended_state {rest = rest} e at_end = ap (λ s. state_from s rest) e
ended_state e (past_pack u) = ended_state e u

ended_book : {end : Call} (b : Book) {cs rest : List Call} → Ended end cs rest → book_from b cs ≡ book_from (fed b end) rest
ended_book b at_end = refl
ended_book b (past_pack u) = ended_book b u

-- a trial that is undone leaves the book that it began with
undone_book : (r : Option Refusal) (e : Edit) (b : Book) → b.open_edit ≡ None → fed (after_begin r e b) undo ≡ b
undone_book None e b s = ap {B = Book} (λ o. record { loaded = b.loaded; kept = b.kept; open_edit = o }) (sym s)
undone_book (Some r) e b s = ap {B = Book} (λ o. record { loaded = b.loaded; kept = b.kept; open_edit = o }) (sym s)

-- so does an empty one that is kept
kept_book : (b : Book) → b.open_edit ≡ None → fed b keep ≡ b
kept_book b s =
    ap {B = Book} (λ es. record { loaded = b.loaded; kept = es; open_edit = None }) (in_force_shut b s)
    ∙ ap {B = Book} (λ o. record { loaded = b.loaded; kept = b.kept; open_edit = o }) (sym s)

abbrev Alike : State → Book → List Call → List Call → Type 0
Alike s b cs ds = (book_from b ds ≡ book_from b cs) × (state_from s ds ≡ state_from s cs)

-- a trial from a settled plan on that ends with its book as it was
trial_alike : {end : Call} (b : Book) (e : Edit) {cs rest : List Call} (ds : List Call) → next tried end ≡ settled → Ended end cs rest
    → fed (fed b (begin e)) end ≡ b → Alike settled b rest ds → Alike settled b (begin e ∷ cs) ds
trial_alike b e {rest = rest} ds n u same t =
    (t.0 ∙ sym (ended_book (fed b (begin e)) u ∙ ap (λ x. book_from x rest) same), t.1 ∙ sym (ended_state n u))

without_alike : (s : State) (b : Book) {cs ds : List Call} → Without b cs ds → Shut s b → state_from s cs ≢ out_of_turn → Alike s b cs ds
without_alike s b done h ok = (refl, refl)
without_alike s b (stays {c = c} w) h ok = without_alike (next s c) (fed b c) w (shut_next s b c h) ok
without_alike settled b (no_load {g = g} {cs = cs} e w) h ok =
    let t = without_alike settled b w h ok in
    (t.0 ∙ sym (ap (λ r. book_from (after_load r g b) cs) e), t.1)
without_alike tried b (no_load {cs = cs} e w) h ok = absurd (ok (out_of_turn_stays cs))
without_alike out_of_turn b (no_load {cs = cs} e w) h ok = absurd (ok (out_of_turn_stays cs))
without_alike settled b (no_test e w) h ok = without_alike settled b w h ok
without_alike tried b (no_test {cs = cs} e w) h ok = absurd (ok (out_of_turn_stays cs))
without_alike out_of_turn b (no_test {cs = cs} e w) h ok = absurd (ok (out_of_turn_stays cs))
without_alike settled b (no_pack w) h ok = without_alike settled b w h ok
without_alike tried b (no_pack w) h ok = without_alike tried b w h ok
without_alike out_of_turn b (no_pack {cs = cs} w) h ok = absurd (ok (out_of_turn_stays cs))
without_alike settled b (no_undone {e = e} {ds = ds} u w) h ok =
    trial_alike b e ds refl u (undone_book (edit_refusal (book_plan b) e) e b h) (without_alike settled b w h (λ z. ok (ended_state refl u ∙ z)))
without_alike tried b (no_undone {cs = cs} u w) h ok = absurd (ok (out_of_turn_stays cs))
without_alike out_of_turn b (no_undone {cs = cs} u w) h ok = absurd (ok (out_of_turn_stays cs))
without_alike settled b (no_empty {e = e} {ds = ds} r u w) h ok =
    trial_alike b e ds refl u (ap (λ x. fed (after_begin x e b) keep) r ∙ kept_book b h) (without_alike settled b w h (λ z. ok (ended_state refl u ∙ z)))
without_alike tried b (no_empty {cs = cs} r u w) h ok = absurd (ok (out_of_turn_stays cs))
without_alike out_of_turn b (no_empty {cs = cs} r u w) h ok = absurd (ok (out_of_turn_stays cs))

pub leaving_out : LeavingOut
leaving_out cs ds w ok = without_alike settled new_book w refl ok
