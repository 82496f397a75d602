-- Calls that leave no trace: a list of calls and the same list without them have one book.
use Rattle.std.specs.Prelude.{◌≡◌, Bool, true, false, cond, ◌≢◌, List, [], ◌∷◌, Some, None, Option}
use Rattle.rules.specs.declared.edits.Edit.{Edit}
use Rattle.rules.specs.declared.refusals.Refusal.{Refusal}
use Rattle.rules.specs.Edits.{edit_refusal}
use Rattle.rules.specs.Loads.{Given, load_refusal, is_some}
use Rattle.rules.specs.Book.{Call, load, test, begin, keep, undo, pack, Book, new_book, book_plan, fed, book, state_after, out_of_turn}

-- from an open trial on: packs, then the call `end`, and behind it the calls `rest`
pub data Ended : Call → List Call → List Call → Type 0 where
  at_end : {end : Call} {rest : List Call} → Ended end (end ∷ rest) rest
  past_pack : {end : Call} {cs rest : List Call} → Ended end cs rest → Ended end (pack ∷ cs) rest

-- ds are the calls cs, from the book b on, without some trials that were undone, some that were empty and kept, some loads
-- and tests that were refused, and some packs
pub data Without : Book → List Call → List Call → Type 0 where
  done : {b : Book} → Without b [] []
  stays : {b : Book} {c : Call} {cs ds : List Call} → Without (fed b c) cs ds → Without b (c ∷ cs) (c ∷ ds)
  no_load : {b : Book} {g : Given} {r : Refusal} {cs ds : List Call} → load_refusal g ≡ Some r → Without b cs ds → Without b (load g ∷ cs) ds
  no_test : {b : Book} {e : Edit} {r : Refusal} {cs ds : List Call} → edit_refusal (book_plan b) e ≡ Some r → Without b cs ds → Without b (test e ∷ cs) ds
  no_pack : {b : Book} {cs ds : List Call} → Without b cs ds → Without b (pack ∷ cs) ds
  no_undone : {b : Book} {e : Edit} {cs rest ds : List Call} → Ended undo cs rest → Without b rest ds → Without b (begin e ∷ cs) ds
  no_empty : {b : Book} {e : Edit} {r : Refusal} {cs rest ds : List Call} → edit_refusal (book_plan b) e ≡ Some r → Ended keep cs rest
      → Without b rest ds → Without b (begin e ∷ cs) ds

-- where the states allow the calls, leaving such calls out changes neither the book nor the state
abbrev pub LeavingOut : Type 0
LeavingOut =
    (cs ds : List Call) → Without new_book cs ds → state_after cs ≢ out_of_turn → (book ds ≡ book cs) × (state_after ds ≡ state_after cs)

-- whether the trial just begun, with this refusal of its edit, comes to nothing: it is undone, or it is empty and kept
abbrev pub idle : Option Refusal → List Call → Bool
idle r [] = false
idle r (load g ∷ cs) = false
idle r (test e ∷ cs) = false
idle r (begin e ∷ cs) = false
idle r (keep ∷ cs) = is_some r
idle r (undo ∷ cs) = true
idle r (pack ∷ cs) = idle r cs

-- the call before the others, unless it was refused
abbrev pub unless_refused : Option Refusal → Call → List Call → List Call
unless_refused None c cs = c ∷ cs
unless_refused (Some r) c cs = cs

-- The calls, from the book b on, without every trial that comes to nothing and every refused load and test.
-- The first argument says whether they start inside a trial that comes to nothing.
abbrev pub pruned_from : Bool → Book → List Call → List Call
pruned_from inside b [] = []
pruned_from true b (load g ∷ cs) = pruned_from true b cs
pruned_from true b (test e ∷ cs) = pruned_from true b cs
pruned_from true b (begin e ∷ cs) = pruned_from true b cs
pruned_from true b (keep ∷ cs) = pruned_from false b cs
pruned_from true b (undo ∷ cs) = pruned_from false b cs
pruned_from true b (pack ∷ cs) = pruned_from true b cs
pruned_from false b (load g ∷ cs) = unless_refused (load_refusal g) (load g) (pruned_from false (fed b (load g)) cs)
pruned_from false b (test e ∷ cs) = unless_refused (edit_refusal (book_plan b) e) (test e) (pruned_from false b cs)
pruned_from false b (begin e ∷ cs) =
    cond (idle (edit_refusal (book_plan b) e) cs) (pruned_from true b cs) (begin e ∷ pruned_from false (fed b (begin e)) cs)
pruned_from false b (keep ∷ cs) = keep ∷ pruned_from false (fed b keep) cs
pruned_from false b (undo ∷ cs) = undo ∷ pruned_from false (fed b undo) cs
pruned_from false b (pack ∷ cs) = pack ∷ pruned_from false b cs

-- the same from a new plan on; a trial that is still open at the end stays
abbrev pub pruned : List Call → List Call
pruned cs = pruned_from false new_book cs

-- each load and test of the calls, from the book b on, passes, and no trial comes to nothing
abbrev pub Lasting : Book → List Call → Type 0
Lasting b [] = Unit {0}
Lasting b (load g ∷ cs) = (load_refusal g ≡ None) × Lasting (fed b (load g)) cs
Lasting b (test e ∷ cs) = (edit_refusal (book_plan b) e ≡ None) × Lasting b cs
Lasting b (begin e ∷ cs) = (idle (edit_refusal (book_plan b) e) cs ≡ false) × Lasting (fed b (begin e)) cs
Lasting b (keep ∷ cs) = Lasting (fed b keep) cs
Lasting b (undo ∷ cs) = Lasting (fed b undo) cs
Lasting b (pack ∷ cs) = Lasting b cs

-- pruning leaves out calls without a trace alone
abbrev pub PrunedIsWithout : Type 0
PrunedIsWithout = (cs : List Call) → Without new_book cs (pruned cs)

-- and, where the states allow the calls, it leaves out all of them but packs
abbrev pub PrunedIsLasting : Type 0
PrunedIsLasting = (cs : List Call) → state_after cs ≢ out_of_turn → Lasting new_book (pruned cs)
