-- What a list of calls, performed from a new plan on, and the packing behind it answer and leave.
use Rattle.std.specs.Prelude.{◌≡◌, ℕ, ◌≢◌, List, [], ◌∷◌, ◌++◌, length, Some, None, Ok, Err, Option, Result}
use Rattle.rules.specs.declared.placements.Placement.{Placement}
use Rattle.rules.specs.declared.refusals.Refusal.{Refusal}
use Rattle.rules.specs.Plans.{Plan}
use Rattle.rules.specs.Skylines.{Sky}
use Rattle.rules.specs.Loads.{Given, room_refusal}
use Rattle.rules.specs.Book.{Call, load, test, begin, keep, undo, pack, Book, new_book, book_plan, fed, book, settled, out_of_turn, state_after}
use Rattle.promises.specs.Packs.{pack_refusal}
use Rattle.promises.specs.Promise.{Promise}
use Rattle.packer.specs.declared.spots.Extent.{Extent}
use Rattle.packer.specs.declared.spots.Spot.{Spot}
use Rattle.packer.specs.Gives.{extent_of, PackGives}
use Rattle.calls.specs.declared.call.Stop.{Stop}
use Rattle.calls.specs.declared.call.Stop.TheVariants.{OutOfTurn, Refused}
use Rattle.calls.specs.Turns.{first_out}

-- the caller's memory: the skyline, the walk records of loads, those of packings (spots), and the placement records
pub record Memory (S : Type 0) : Type 0 where
  pub skyline : S
  pub walk : List ℕ
  pub spots : List Spot
  pub places : List Placement

-- the parts as one
abbrev pub memory : {S : Type 0} → S → List ℕ → List Spot → List Placement → Memory S
memory s w sp ps = record { skyline = s; walk = w; spots = sp; places = ps }

-- what one call leaves of the walk records of loads
abbrev pub WalkLeft : Call → List ℕ → List ℕ → Type 0
WalkLeft (load g) before after = (reason : Refusal) → room_refusal g None ≡ Some reason → after ≡ before
WalkLeft (test e) before after = after ≡ before
WalkLeft (begin e) before after = after ≡ before
WalkLeft keep before after = after ≡ before
WalkLeft undo before after = after ≡ before
WalkLeft pack before after = after ≡ before

-- A load alters only its walk records, and not those if one of the tests of lengths refuses it.
pub record LoadLeaves {S : Type 0} (g : Given) (before after : Memory S) : Type 0 where
  pub skyline : after.skyline ≡ before.skyline
  pub walk : WalkLeft (load g) before.walk after.walk
  pub spots : after.spots ≡ before.spots
  pub places : after.places ≡ before.places

-- A packing of p does what pack does with p, and leaves the walk records of loads.
pub record PackLeaves {S : Type 0} (meaning : S → Sky) (p : Plan) (before after : Memory S) (r : Result Extent Refusal) : Type 0 where
  pub gives : PackGives meaning p before.skyline after.skyline before.spots after.spots before.places after.places r
  pub walk : after.walk ≡ before.walk

-- what one call leaves of the caller's memory, p being the plan in hand before it
abbrev pub CallLeaves : {S : Type 0} → (S → Sky) → Plan → Call → Memory S → Memory S → Type 0
CallLeaves meaning p (load g) before after = LoadLeaves g before after
CallLeaves meaning p (test e) before after = after ≡ before
CallLeaves meaning p (begin e) before after = after ≡ before
CallLeaves meaning p keep before after = after ≡ before
CallLeaves meaning p undo before after = after ≡ before
CallLeaves meaning p pack before after = (r : Result Extent Refusal) × PackLeaves meaning p before after r

-- the calls of a list are performed one after the other, each on the plan in the book of those before it, from the book b on
abbrev pub Performed : {S : Type 0} → (S → Sky) → Book → List Call → Memory S → Memory S → Type 0
Performed meaning b [] before after = after ≡ before
Performed {S} meaning b (c ∷ cs) before after =
    (between : Memory S) × CallLeaves meaning (book_plan b) c before between × Performed meaning (fed b c) cs between after

-- the answer of the packing behind the calls
abbrev pub ended : Option Refusal → Extent → Result Extent Stop
ended None x = Ok x
ended (Some e) x = Err (Refused e)

-- The answer by the book: a list out of turn is refused at its first call out of turn, and nothing is altered. A list in turn
-- is performed call by call from a new plan on, then the plan in its book is packed, and that packing is answered. If it is
-- accepted, the whole promise holds.
pub record PackAfter {S : Type 0} (meaning : S → Sky) (cs : List Call) (before after : Memory S) (r : Result Extent Stop) : Type 0 where
  pub refused_out_of_turn : (k : ℕ) → first_out settled 0 cs ≡ Some k → (r ≡ Err (OutOfTurn k)) × (after ≡ before)
  pub only_out_of_turn : (k : ℕ) → first_out settled 0 cs ≡ Some k → state_after cs ≡ out_of_turn
  pub in_turn : first_out settled 0 cs ≡ None → state_after cs ≢ out_of_turn
  pub answer : first_out settled 0 cs ≡ None
      → r ≡ ended (pack_refusal (book_plan (book cs)) (meaning before.skyline) (length before.spots) (length before.places)) (extent_of (book_plan (book cs)))
  pub performed : first_out settled 0 cs ≡ None → Performed meaning new_book (cs ++ (pack ∷ [])) before after
  pub promise : (x : Extent) → r ≡ Ok x → Promise cs x.width x.height after.places (meaning after.skyline)
