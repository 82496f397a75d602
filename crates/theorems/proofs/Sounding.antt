-- What every book has that calls allowed by the states lead to.
use Rattle.std.proofs.Common.{◌≡◌, ◌≢◌, List, [], ◌∷◌, ◌++◌, Some, None, Option, sym, refl, ap, ◌∙◌, subst, append-nil, arith}
use Rattle.rules.specs.declared.edits.Edit.{Edit}
use Rattle.rules.specs.declared.refusals.Refusal.{Refusal}
use Rattle.rules.specs.Plans.{Plan, new_plan, block_count}
use Rattle.rules.specs.Edits.{edited, edit_refusal}
use Rattle.rules.specs.Loads.{Given, load_refusal}
use Rattle.rules.specs.Book.{Call, load, test, begin, keep, undo, pack, Book, new_book, in_force, performed, book_plan, after_load, after_begin, fed, book_from, book, State, settled, tried, out_of_turn, next, state_from}
use Rattle.rules.proofs.Counts.{no_count}
use Rattle.theorems.specs.Presence.{Passes, Full, Sound, BooksAreSound, PresenceInBooks}
use Rattle.theorems.proofs.Books.{Shut, shut_next, out_of_turn_stays, in_force_shut, plan_shut}
use Rattle.theorems.proofs.Loaded.{loads_are_whole}
use Rattle.theorems.proofs.Decided.{presence_by_last}

passes_snoc : (p : Plan) (es : List Edit) (e : Edit) → Passes p es → edit_refusal (performed es p) e ≡ None → Passes p (es ++ (e ∷ []))
passes_snoc p [] e h t = (t, tt)
passes_snoc p (d ∷ es) e h t = (h.0, passes_snoc (edited d p) es e h.1 t)

passes_front : (p : Plan) (es ds : List Edit) → Passes p (es ++ ds) → Passes p es
passes_front p [] ds h = tt
passes_front p (e ∷ es) ds h = (h.0, passes_front (edited e p) es ds h.1)

new_full : Full new_plan
unfolding block_count
new_full = record {
  whole = record { once = λ k. omega (arith, no_count k); known = λ k h. absurd (omega (arith, no_count k)) };
  all_present = λ k h. absurd (omega arith);
}

load_sound : (r : Option Refusal) (g : Given) (b : Book) → load_refusal g ≡ r → Sound b → Sound (after_load r g b)
load_sound None g b e h =
    let l = loads_are_whole g e in record { full = record { whole = l.0; all_present = l.1 }; passes = tt }
load_sound (Some r) g b e h = h

begin_sound : (r : Option Refusal) (e : Edit) (b : Book) → edit_refusal (book_plan b) e ≡ r → b.open_edit ≡ None → Sound b → Sound (after_begin r e b)
begin_sound None e b t s h =
    let kept : Passes b.loaded b.kept = subst (Passes b.loaded) (in_force_shut b s) h.passes in
    record { full = h.full; passes = passes_snoc b.loaded b.kept e kept (ap (λ p. edit_refusal p e) (sym (plan_shut b s)) ∙ t) }
begin_sound (Some r) e b t s h = h

-- one call that the state allows
sound_next : (s : State) (b : Book) (c : Call) → Shut s b → Sound b → next s c ≢ out_of_turn → Sound (fed b c)
sound_next settled b (load g) s h ok = load_sound (load_refusal g) g b refl h
sound_next settled b (test e) s h ok = h
sound_next settled b (begin e) s h ok = begin_sound (edit_refusal (book_plan b) e) e b refl s h
sound_next settled b keep s h ok = absurd (ok refl)
sound_next settled b undo s h ok = absurd (ok refl)
sound_next settled b pack s h ok = h
sound_next tried b (load g) s h ok = absurd (ok refl)
sound_next tried b (test e) s h ok = absurd (ok refl)
sound_next tried b (begin e) s h ok = absurd (ok refl)
sound_next tried b keep s h ok = record { full = h.full; passes = subst (Passes b.loaded) (sym (append-nil (in_force b))) h.passes }
sound_next tried b undo s h ok =
    record { full = h.full; passes = subst (Passes b.loaded) (sym (append-nil b.kept)) (passes_front b.loaded b.kept _ h.passes) }
sound_next tried b pack s h ok = h
sound_next out_of_turn b c s h ok = absurd (ok refl)

sound_from : (s : State) (b : Book) (cs : List Call) → Shut s b → Sound b → state_from s cs ≢ out_of_turn → Sound (book_from b cs)
sound_from s b [] t h ok = h
sound_from s b (c ∷ cs) t h ok =
    let allowed : next s c ≢ out_of_turn = λ e. ok (ap (λ x. state_from x cs) e ∙ out_of_turn_stays cs) in
    sound_from (next s c) (fed b c) cs (shut_next s b c t) (sound_next s b c t h allowed) ok

pub books_are_sound : BooksAreSound
books_are_sound cs ok = sound_from settled new_book cs refl (record { full = new_full; passes = tt }) ok

pub presence_in_books : PresenceInBooks
presence_in_books cs ok k h =
    let s = books_are_sound cs ok in presence_by_last (book cs).loaded (in_force (book cs)) k s.full s.passes h
