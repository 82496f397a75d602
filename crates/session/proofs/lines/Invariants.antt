use Rattle.std.proofs.Common.{◌≤◌, length}
use Rattle.session.proofs.lines.Given as goal

-- no line makes the rest longer
abbrev pub invariant-loop-text : goal.invariant-loop-text
invariant-loop-text g l = length l.pending.rest.now ≤ length l.initial.pending.rest.now

abbrev pub decreases-loop-text : goal.decreases-loop-text
decreases-loop-text g l = length l.pending.rest.now
