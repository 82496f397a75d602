-- The first call of a list that the state of the plan does not allow.
use Rattle.std.specs.Prelude.{ℕ, ◌+◌, List, [], ◌∷◌, Some, None, Ok, Err, Option, Result}
use Rattle.rules.specs.Book.{Call, State, settled, tried, out_of_turn, next}
use Rattle.calls.specs.declared.call.Stop.{Stop}
use Rattle.calls.specs.declared.call.Stop.TheVariants.{OutOfTurn}

-- the call i, if it led out of turn, else what is found after it
abbrev pub out_at : State → ℕ → Option ℕ → Option ℕ
out_at settled i after = after
out_at tried i after = after
out_at out_of_turn i after = Some i

-- the first call out of turn, from the state s on, the calls being numbered from i on
abbrev pub first_out : State → ℕ → List Call → Option ℕ
first_out s i [] = None
first_out s i (c ∷ cs) = out_at (next s c) i (first_out (next s c) (i + 1) cs)

-- a list is refused at its first call out of turn
abbrev pub turned : Option ℕ → Result (Unit {0}) Stop
turned None = Ok tt
turned (Some k) = Err (OutOfTurn k)
