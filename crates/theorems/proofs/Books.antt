-- Books and states, one call after the other.
use Rattle.std.proofs.Common.{◌≡◌, List, [], ◌∷◌, ◌++◌, Some, None, Option, refl, ap, ◌∙◌, subst, append-nil}
use Rattle.rules.specs.declared.edits.Edit.{Edit}
use Rattle.rules.specs.declared.refusals.Refusal.{Refusal}
use Rattle.rules.specs.Plans.{Plan}
use Rattle.rules.specs.Edits.{edited}
use Rattle.rules.specs.Loads.{Given, load_refusal}
use Rattle.rules.specs.Book.{Call, load, test, begin, keep, undo, pack, Book, new_book, as_list, in_force, performed, book_plan, kept_plan, after_load, fed, book_from, book, State, settled, tried, out_of_turn, next, state_from, state_after}

pub performed_snoc : (es : List Edit) (e : Edit) (p : Plan) → performed (es ++ (e ∷ [])) p ≡ edited e (performed es p)
performed_snoc [] e p = refl
performed_snoc (d ∷ es) e p = performed_snoc es e (edited d p)

pub book-from-++ : (b : Book) (cs ds : List Call) → book_from b (cs ++ ds) ≡ book_from (book_from b cs) ds
book-from-++ b [] ds = refl
book-from-++ b (c ∷ cs) ds = book-from-++ (fed b c) cs ds

pub state-from-++ : (s : State) (cs ds : List Call) → state_from s (cs ++ ds) ≡ state_from (state_from s cs) ds
state-from-++ s [] ds = refl
state-from-++ s (c ∷ cs) ds = state-from-++ (next s c) cs ds

pub out_of_turn_stays : (cs : List Call) → state_from out_of_turn cs ≡ out_of_turn
out_of_turn_stays [] = refl
out_of_turn_stays (c ∷ cs) = out_of_turn_stays cs

-- in a settled state no edit is open
abbrev pub Shut : State → Book → Type 0
Shut settled b = b.open_edit ≡ None
Shut tried b = Unit {0}
Shut out_of_turn b = Unit {0}

load_shut : (r : Option Refusal) (g : Given) (b : Book) → b.open_edit ≡ None → (after_load r g b).open_edit ≡ None
load_shut None g b h = refl
load_shut (Some r) g b h = h

pub shut_next : (s : State) (b : Book) (c : Call) → Shut s b → Shut (next s c) (fed b c)
shut_next settled b (load g) h = load_shut (load_refusal g) g b h
shut_next settled b (test e) h = h
shut_next settled b (begin e) h = tt
shut_next settled b keep h = tt
shut_next settled b undo h = tt
shut_next settled b pack h = h
shut_next tried b (load g) h = tt
shut_next tried b (test e) h = tt
shut_next tried b (begin e) h = tt
shut_next tried b keep h = refl
shut_next tried b undo h = refl
shut_next tried b pack h = tt
shut_next out_of_turn b c h = tt

shut_from : (s : State) (b : Book) (cs : List Call) → Shut s b → Shut (state_from s cs) (book_from b cs)
shut_from s b [] h = h
shut_from s b (c ∷ cs) h = shut_from (next s c) (fed b c) cs (shut_next s b c h)

pub shut : (cs : List Call) → state_after cs ≡ settled → (book cs).open_edit ≡ None
shut cs e = subst (λ s. Shut s (book cs)) e (shut_from settled new_book cs refl)

-- with no edit open, the kept ones alone are in force
pub in_force_shut : (b : Book) → b.open_edit ≡ None → in_force b ≡ b.kept
in_force_shut b h = ap (λ o. b.kept ++ as_list o) h ∙ append-nil b.kept

pub plan_shut : (b : Book) → b.open_edit ≡ None → book_plan b ≡ kept_plan b
plan_shut b h = ap (λ es. performed es b.loaded) (in_force_shut b h)
