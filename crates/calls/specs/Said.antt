-- What the calls of a list say.
use Rattle.std.specs.Prelude.{ℕ, min, Some, None, Option}
use Rattle.rules.specs.Loads.{Given}
use Rattle.rules.specs.Book as book
use Rattle.loading.specs.Told.{given}
use Rattle.calls.specs.declared.call.Call.{Call}
use Rattle.calls.specs.declared.call.Call.TheVariants.{Load, Test, Begin, Keep, Undo, Pack}
use Rattle.calls.specs.declared.call.Loading.{Loading}
use Rattle.calls.specs.declared.turns.Turn.{Turn}
use Rattle.calls.specs.declared.turns.Turn.TheVariants.{Settled, Tried}

-- the arguments of a load where so many walk records are lent: it uses as many as it names, or all
abbrev pub load_given : ℕ → Loading → Given
load_given records l = given l.lists (min l.walk records)

-- a call with its arguments, as it goes into a book
abbrev pub said : ℕ → Call → book.Call
said records (Load l) = book.load (load_given records l)
said records (Test e) = book.test e
said records (Begin e) = book.begin e
said records Keep = book.keep
said records Undo = book.undo
said records Pack = book.pack

-- the state; none is out of turn
abbrev pub as_state : Option Turn → book.State
as_state None = book.out_of_turn
as_state (Some Settled) = book.settled
as_state (Some Tried) = book.tried
