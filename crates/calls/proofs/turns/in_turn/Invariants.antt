use Rattle.std.proofs.Common.{◌≡◌, ℕ, map, drop, Some}
use Rattle.rules.specs.Book.{settled}
use Rattle.calls.specs.Turns.{first_out}
use Rattle.calls.specs.Said.{said, as_state}
use Rattle.calls.proofs.turns.in_turn.Given as goal

-- what is found in the rest is what is found in all
abbrev pub invariant-loop-i : goal.invariant-loop-i
invariant-loop-i l = (records : ℕ) → first_out (as_state (Some l.state)) l.i (map (said records) (drop l.i l.calls)) ≡ first_out settled 0 (map (said records) l.calls)
