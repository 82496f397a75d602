-- The book of a list of calls: what the calls, with their arguments alone, make of a plan.
use Rattle.std.specs.Prelude.{◌≡◌, ℕ, min, List, [], ◌∷◌, ◌++◌, length, Some, None, Option}
use Rattle.rules.specs.declared.edits.Edit.{Edit}
use Rattle.rules.specs.declared.refusals.Refusal.{Refusal}
use Rattle.rules.specs.Plans.{Plan, new_plan}
use Rattle.rules.specs.Edits.{edited, edit_refusal}
use Rattle.rules.specs.Loads.{Given, load_refusal, given_plan}

-- a call with its arguments
pub data Call : Type 0 where
  load : Given → Call
  test : Edit → Call
  begin : Edit → Call
  keep : Call
  undo : Call
  pack : Call

-- A loaded plan, the kept edits in order, and at most one open edit.
pub record Book : Type 0 where
  pub loaded : Plan
  pub kept : List Edit
  pub open_edit : Option Edit

-- a new plan, and no edits
abbrev pub new_book : Book
new_book = record { loaded = new_plan; kept = []; open_edit = None }

-- the edit, if there is one
abbrev pub as_list : Option Edit → List Edit
as_list None = []
as_list (Some e) = e ∷ []

-- in force are the kept edits, then the open one
abbrev pub in_force : Book → List Edit
in_force b = b.kept ++ as_list b.open_edit

-- edits performed in order
abbrev pub performed : List Edit → Plan → Plan
performed [] p = p
performed (e ∷ es) p = performed es (edited e p)

-- the plan in the book: the edits in force, performed on the loaded plan
abbrev pub book_plan : Book → Plan
book_plan b = performed (in_force b) b.loaded

-- the plan without the open edit
abbrev pub kept_plan : Book → Plan
kept_plan b = performed b.kept b.loaded

-- how many trials that were not empty have been kept since load; the count stops at 4,294,967,295
abbrev pub kept_count : Book → ℕ
kept_count b = min 4294967295 (length b.kept)

-- a load that passes its tests leaves its plan alone in the book, a refused one changes nothing
abbrev pub after_load : Option Refusal → Given → Book → Book
after_load None g b = record { loaded = given_plan g; kept = []; open_edit = None }
after_load (Some r) g b = b

-- begin opens its edit if that passes its tests
abbrev pub after_begin : Option Refusal → Edit → Book → Book
after_begin None e b = record { loaded = b.loaded; kept = b.kept; open_edit = Some e }
after_begin (Some r) e b = b

-- the book after a call: keep adds the open edit behind the kept ones, undo drops it, tests and packs change nothing
abbrev pub fed : Book → Call → Book
fed b (load g) = after_load (load_refusal g) g b
fed b (test e) = b
fed b (begin e) = after_begin (edit_refusal (book_plan b) e) e b
fed b keep = record { loaded = b.loaded; kept = in_force b; open_edit = None }
fed b undo = record { loaded = b.loaded; kept = b.kept; open_edit = None }
fed b pack = b

-- the book after a list of calls, from b on
abbrev pub book_from : Book → List Call → Book
book_from b [] = b
book_from b (c ∷ cs) = book_from (fed b c) cs

-- the book of a list of calls, from a new plan on
abbrev pub book : List Call → Book
book cs = book_from new_book cs

-- Whether a plan is settled, or tried (a trial is open); out of turn once a call came that the state does not allow.
pub data State : Type 0 where
  settled : State
  tried : State
  out_of_turn : State

-- A settled plan allows load, test, begin and pack; an open trial allows keep, undo and pack.
abbrev pub next : State → Call → State
next settled (load g) = settled
next settled (test e) = settled
next settled (begin e) = tried
next settled keep = out_of_turn
next settled undo = out_of_turn
next settled pack = settled
next tried (load g) = out_of_turn
next tried (test e) = out_of_turn
next tried (begin e) = out_of_turn
next tried keep = settled
next tried undo = settled
next tried pack = tried
next out_of_turn c = out_of_turn

-- the state after a list of calls, from s on
abbrev pub state_from : State → List Call → State
state_from s [] = s
state_from s (c ∷ cs) = state_from (next s c) cs

-- the same from a new plan on
abbrev pub state_after : List Call → State
state_after cs = state_from settled cs

-- A settled plan follows the calls: they leave it settled, it is the plan in their book, and its count is that of their book.
pub record Settles (cs : List Call) (plan : Plan) (kept : ℕ) : Type 0 where
  pub state : state_after cs ≡ settled
  pub in_book : plan ≡ book_plan (book cs)
  pub counted : kept ≡ kept_count (book cs)

-- An open trial follows the calls: they leave a trial open, it is the plan in their book, what undo goes back to is the
-- book's plan without the open edit, and what keep and undo will count is what the book has.
pub record Tries (cs : List Call) (plan before : Plan) (kept_next kept : ℕ) : Type 0 where
  pub state : state_after cs ≡ tried
  pub in_book : plan ≡ book_plan (book cs)
  pub back : before ≡ kept_plan (book cs)
  pub counted : kept ≡ kept_count (book cs)
  pub counted_next : kept_next ≡ min 4294967295 (length (in_force (book cs)))
