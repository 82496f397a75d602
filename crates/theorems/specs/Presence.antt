-- Which blocks are present: those whose last take out, put in or move is not a take out.
use Rattle.std.specs.Prelude.{◌≡◌, ℕ, ◌<◌, Bool, true, false, cond, ◌≢◌, List, [], ◌∷◌, Some, None, Option, ◌==◌}
use Rattle.std.specs.Option.{option_or}
use Rattle.rules.specs.declared.edits.Edit.{Edit}
use Rattle.rules.specs.declared.edits.Edit.TheVariants.{Turn, Swap, TakeOut, PutIn, Move}
use Rattle.rules.specs.Plans.{Plan, Whole, block_count, present}
use Rattle.rules.specs.Edits.{edited, edit_refusal}
use Rattle.rules.specs.Loads.{Given, load_refusal, given_plan}
use Rattle.rules.specs.Book.{Call, Book, performed, in_force, book, book_plan, state_after, out_of_turn}

-- whether the edit takes out, puts in or moves block k; a move is one of its first block only
abbrev pub decides : ℕ → Edit → Bool
decides k (Turn i) = false
decides k (Swap i j) = false
decides k (TakeOut i) = i == k
decides k (PutIn i j s) = i == k
decides k (Move i j s) = i == k

-- the last take out, put in or move of block k, if there is one
abbrev pub last_of : ℕ → List Edit → Option Edit
last_of k [] = None
last_of k (e ∷ es) = option_or (last_of k es) (cond (decides k e) (Some e) None)

-- each edit passes its tests on the plan that the edits before it made
abbrev pub Passes : Plan → List Edit → Type 0
Passes p [] = Unit {0}
Passes p (e ∷ es) = (edit_refusal p e ≡ None) × Passes (edited e p) es

-- each block of the plan stands in its tree, and nothing else does
pub record Full (p : Plan) : Type 0 where
  pub whole : Whole p
  pub all_present : (k : ℕ) → k < block_count p → present p k ≡ true

-- block k is absent in the plan p exactly if the last of its edits among es is a take out
pub record AbsentIfTakenOut (k : ℕ) (es : List Edit) (p : Plan) : Type 0 where
  pub absent : present p k ≡ false → last_of k es ≡ Some (TakeOut k)
  pub taken_out : last_of k es ≡ Some (TakeOut k) → present p k ≡ false

-- so it is after edits that pass one after the other, on a plan with every block present
abbrev pub PresenceByLast : Type 0
PresenceByLast =
    (p : Plan) (es : List Edit) (k : ℕ) → Full p → Passes p es → k < block_count p → AbsentIfTakenOut k es (performed es p)

-- a load that passes its tests gives a plan with every block present
abbrev pub LoadsAreWhole : Type 0
LoadsAreWhole =
    (g : Given) → load_refusal g ≡ None
    → Whole (given_plan g) × ((k : ℕ) → k < block_count (given_plan g) → present (given_plan g) k ≡ true)

-- a loaded plan with every block present, and in force edits that pass one after the other
pub record Sound (b : Book) : Type 0 where
  pub full : Full b.loaded
  pub passes : Passes b.loaded (in_force b)

-- from a new plan on, calls that the states allow lead to such a book
abbrev pub BooksAreSound : Type 0
BooksAreSound = (cs : List Call) → state_after cs ≢ out_of_turn → Sound (book cs)

-- in the plan of a book a block is absent exactly if the last of its edits in force is a take out
abbrev pub PresenceInBooks : Type 0
PresenceInBooks =
    (cs : List Call) → state_after cs ≢ out_of_turn → (k : ℕ) → k < block_count (book cs).loaded
    → AbsentIfTakenOut k (in_force (book cs)) (book_plan (book cs))
