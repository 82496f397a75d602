-- Pruning leaves out calls without a trace alone, and all of them but packs.
use Rattle.std.proofs.Common.{◌≡◌, Bool, true, false, cond, ◌≢◌, ◌⊎◌, List, [], ◌∷◌, Some, None, Option, sym, refl, ◌∙◌, subst, inl, inr}
use Rattle.std.proofs.lemmas.Bool.{false≢true}
use Rattle.rules.specs.declared.edits.Edit.{Edit}
use Rattle.rules.specs.declared.refusals.Refusal.{Refusal}
use Rattle.rules.specs.Edits.{edit_refusal}
use Rattle.rules.specs.Loads.{Given, load_refusal, is_some}
use Rattle.rules.specs.Book.{Call, load, test, begin, keep, undo, pack, Book, new_book, book_plan, after_load, fed, State, settled, tried, out_of_turn, next, state_from}
use Rattle.theorems.specs.Histories.{Ended, at_end, past_pack, Without, done, stays, no_load, no_test, no_undone, no_empty, idle, unless_refused, pruned_from, Lasting, PrunedIsWithout, PrunedIsLasting}
use Rattle.theorems.proofs.Books.{out_of_turn_stays}

load_case : (o : Option Refusal) (g : Given) (b : Book) (cs ds : List Call) → load_refusal g ≡ o → Without (after_load o g b) cs ds
    → Without b (load g ∷ cs) (unless_refused o (load g) ds)
load_case None g b cs ds e w = stays (subst (λ o. Without (after_load o g b) cs ds) (sym e) w)
load_case (Some r) g b cs ds e w = no_load e w

test_case : (o : Option Refusal) (d : Edit) (b : Book) (cs ds : List Call) → edit_refusal (book_plan b) d ≡ o → Without b cs ds
    → Without b (test d ∷ cs) (unless_refused o (test d) ds)
test_case None d b cs ds e w = stays w
test_case (Some r) d b cs ds e w = no_test e w

-- What is shown outside a trial that comes to nothing, and inside: there the trial ends, undone or empty and kept.
abbrev Goal : Bool → Book → List Call → Type 0
Goal false b cs = Without b cs (pruned_from false b cs)
Goal true b cs =
    (o : Option Refusal) → idle o cs ≡ true
    → (rest : List Call) × (((is_some o ≡ true) × Ended keep cs rest) ⊎ Ended undo cs rest) × Without b rest (pruned_from true b cs)

empty_case : (o : Option Refusal) (d : Edit) (b : Book) (cs ds rest : List Call) → edit_refusal (book_plan b) d ≡ o → is_some o ≡ true
    → Ended keep cs rest → Without b rest ds → Without b (begin d ∷ cs) ds
empty_case None d b cs ds rest e h u w = absurd (false≢true h)
empty_case (Some r) d b cs ds rest e h u w = no_empty e u w

begin_case : (t : Bool) (d : Edit) (b : Book) (cs : List Call) → idle (edit_refusal (book_plan b) d) cs ≡ t → Goal true b cs → Goal false (fed b (begin d)) cs
    → Without b (begin d ∷ cs) (cond t (pruned_from true b cs) (begin d ∷ pruned_from false (fed b (begin d)) cs))
begin_case true d b cs e gone on =
    let o = edit_refusal (book_plan b) d in
    let r = gone o e in
    elim r.1 [ inl k ↦ empty_case o d b cs _ r.0 refl k.0 k.1 r.2 | inr u ↦ no_undone u r.2 ]
begin_case false d b cs e gone on = stays on

goal : (inside : Bool) (b : Book) (cs : List Call) → Goal inside b cs
goal true b [] = λ o e. absurd (false≢true e)
goal true b (load g ∷ cs) = λ o e. absurd (false≢true e)
goal true b (test d ∷ cs) = λ o e. absurd (false≢true e)
goal true b (begin d ∷ cs) = λ o e. absurd (false≢true e)
goal true b (keep ∷ cs) = λ o e. (cs, inl (e, at_end), goal false b cs)
goal true b (undo ∷ cs) = λ o e. (cs, inr at_end, goal false b cs)
goal true b (pack ∷ cs) = λ o e.
    let r = goal true b cs o e in
    (r.0, elim r.1 [ inl k ↦ inl (k.0, past_pack k.1) | inr u ↦ inr (past_pack u) ], r.2)
goal false b [] = done
goal false b (load g ∷ cs) = load_case (load_refusal g) g b cs _ refl (goal false (fed b (load g)) cs)
goal false b (test d ∷ cs) = test_case (edit_refusal (book_plan b) d) d b cs _ refl (goal false b cs)
goal false b (begin d ∷ cs) = begin_case (idle (edit_refusal (book_plan b) d) cs) d b cs refl (goal true b cs) (goal false (fed b (begin d)) cs)
goal false b (keep ∷ cs) = stays (goal false (fed b keep) cs)
goal false b (undo ∷ cs) = stays (goal false (fed b undo) cs)
goal false b (pack ∷ cs) = stays (goal false b cs)

pub pruned_is_without : PrunedIsWithout
pruned_is_without cs = goal false new_book cs

-- inside a trial that the states allow, pruning changes nothing up to its end
same_end : (o : Option Refusal) (b : Book) (cs : List Call) → state_from tried cs ≢ out_of_turn → idle o (pruned_from false b cs) ≡ idle o cs
same_end o b [] ok = refl
same_end o b (load g ∷ cs) ok = absurd (ok (out_of_turn_stays cs))
same_end o b (test d ∷ cs) ok = absurd (ok (out_of_turn_stays cs))
same_end o b (begin d ∷ cs) ok = absurd (ok (out_of_turn_stays cs))
same_end o b (keep ∷ cs) ok = refl
same_end o b (undo ∷ cs) ok = refl
same_end o b (pack ∷ cs) ok = same_end o b cs ok

load_lasts : (o : Option Refusal) (g : Given) (b : Book) (ds : List Call) → load_refusal g ≡ o → Lasting (after_load o g b) ds
    → Lasting b (unless_refused o (load g) ds)
load_lasts None g b ds e h = (e, subst (λ o. Lasting (after_load o g b) ds) (sym e) h)
load_lasts (Some r) g b ds e h = h

test_lasts : (o : Option Refusal) (d : Edit) (b : Book) (ds : List Call) → edit_refusal (book_plan b) d ≡ o → Lasting b ds
    → Lasting b (unless_refused o (test d) ds)
test_lasts None d b ds e h = (e, h)
test_lasts (Some r) d b ds e h = h

begin_lasts : (t : Bool) (d : Edit) (b : Book) (cs : List Call) → idle (edit_refusal (book_plan b) d) cs ≡ t → state_from tried cs ≢ out_of_turn
    → Lasting b (pruned_from true b cs) → Lasting (fed b (begin d)) (pruned_from false (fed b (begin d)) cs)
    → Lasting b (cond t (pruned_from true b cs) (begin d ∷ pruned_from false (fed b (begin d)) cs))
begin_lasts true d b cs e ok gone on = gone
begin_lasts false d b cs e ok gone on = (same_end (edit_refusal (book_plan b) d) (fed b (begin d)) cs ok ∙ e, on)

lasts : (s : State) (inside : Bool) (b : Book) (cs : List Call) → state_from s cs ≢ out_of_turn → Lasting b (pruned_from inside b cs)
lasts s true b [] ok = tt
lasts s true b (load g ∷ cs) ok = lasts (next s (load g)) true b cs ok
lasts s true b (test d ∷ cs) ok = lasts (next s (test d)) true b cs ok
lasts s true b (begin d ∷ cs) ok = lasts (next s (begin d)) true b cs ok
lasts s true b (keep ∷ cs) ok = lasts (next s keep) false b cs ok
lasts s true b (undo ∷ cs) ok = lasts (next s undo) false b cs ok
lasts s true b (pack ∷ cs) ok = lasts (next s pack) true b cs ok
lasts s false b [] ok = tt
lasts s false b (load g ∷ cs) ok = load_lasts (load_refusal g) g b _ refl (lasts (next s (load g)) false (fed b (load g)) cs ok)
lasts s false b (test d ∷ cs) ok = test_lasts (edit_refusal (book_plan b) d) d b _ refl (lasts (next s (test d)) false b cs ok)
lasts settled false b (begin d ∷ cs) ok =
    begin_lasts (idle (edit_refusal (book_plan b) d) cs) d b cs refl ok (lasts tried true b cs ok) (lasts tried false (fed b (begin d)) cs ok)
lasts tried false b (begin d ∷ cs) ok = absurd (ok (out_of_turn_stays cs))
lasts out_of_turn false b (begin d ∷ cs) ok = absurd (ok (out_of_turn_stays cs))
lasts s false b (keep ∷ cs) ok = lasts (next s keep) false (fed b keep) cs ok
lasts s false b (undo ∷ cs) ok = lasts (next s undo) false (fed b undo) cs ok
lasts s false b (pack ∷ cs) ok = lasts (next s pack) false b cs ok

pub pruned_is_lasting : PrunedIsLasting
pruned_is_lasting cs ok = lasts settled false new_book cs ok
