use Rattle.std.proofs.Common.{length}
use Rattle.session.proofs.run.Given as goal

-- each skyline that is made takes its line from the rest
abbrev pub decreases-loop-after : goal.decreases-loop-after
decreases-loop-after l = length l.work.pending.rest.now
