use Rattle.std.proofs.Common.{◌≡◌, ◌+◌, ◌≤◌, length}
use Rattle.reader.specs.declared.counts.Counts.{Counts}
use Rattle.reader.specs.Text.{body}
use Rattle.reader.specs.Left.{lines_left}
use Rattle.reader.specs.Found.{blocks_of}
use Rattle.reader.proofs.body.read_body.Given as goal

-- the body goes on with the lines that are left, behind what was found
abbrev pub invariant-loop-line : goal.invariant-loop-line
invariant-loop-line l =
    (l.terminals + length (lines_left l.line-iterator) ≤ 65536)
    × ((c : Counts) → body c (blocks_of l.initial.blocks) 0 (lines_left l.fn.lines) ≡ body c (blocks_of l.blocks) l.terminals (lines_left l.line-iterator))
