use Rattle.std.proofs.Common.{◌≡◌, length}
use Rattle.reader.specs.Left.{lines_left}
use Rattle.reader.proofs.lines.stepping.UsedLinesIterator.next.Given as goal

-- no line that is used has been passed
abbrev pub invariant-loop-bytes : goal.invariant-loop-bytes
invariant-loop-bytes l = lines_left l.initial.self ≡ lines_left l.self

abbrev pub decreases-loop-bytes : goal.decreases-loop-bytes
decreases-loop-bytes l = length l.self.rest.now
