use Rattle.std.proofs.Common.{arith}
use Rattle.steps.proofs.Flat.{flattened}
use Rattle.steps.proofs.steps.Steps.flatten.Goals as goal

pub invariant_of-self-clause-room : goal.invariant_of-self-clause-room
invariant_of-self-clause-room c =
    let flat = flattened _ _ _ c.args.columns _ c.min-count.ensures c.in_use-used.ensures c.replace.ensures.runs in
    omega (arith, c.replace.ensures.room)

pub invariant_of-self-clause-ordered : goal.invariant_of-self-clause-ordered
invariant_of-self-clause-ordered c = (flattened _ _ _ c.args.columns _ c.min-count.ensures c.in_use-used.ensures c.replace.ensures.runs).ordered

pub returns-clause-height : goal.returns-clause-height
returns-clause-height c = (flattened _ _ _ c.args.columns _ c.min-count.ensures c.in_use-used.ensures c.replace.ensures.runs).heights
