use Rattle.std.proofs.Common.{arith, length-take-le}
use Rattle.steps.specs.Used.{in_use, room}
use Rattle.steps.proofs.Replacing.{written}
use Rattle.steps.proofs.runs.Runs.replace.Goals as goal

pub returns-clause-runs : goal.returns-clause-runs
unfolding in_use room
returns-clause-runs c =
    let s = c.args.self.now in
    let size = length-take-le s.used s.memory.now s.fits in
    written s.memory.now c.args.new.now s.used c.args.first c.args.past c.requires.forward (omega arith) s.fits (omega arith)
    _ _ _ (omega arith) c.shift.ensures.moved c.copy_from_slice.ensures.after
