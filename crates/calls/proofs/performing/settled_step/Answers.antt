use Rattle.std.proofs.Common.{length}
use Rattle.plan.specs.Meaning.{settled_plan, settled_kept}
use Rattle.calls.proofs.Stepping.{settled_rest}
use Rattle.calls.proofs.performing.settled_step.Goals as goal

pub returns-in_default-clause-told : goal.returns-in_default-clause-told
returns-in_default-clause-told c = λ cs h turn.
    let s = c.args.plan in
    settled_rest (length c.args.walk.now) c.args.call.now cs (settled_plan s) (settled_kept s) c.in_default.not-Load c.in_default.not-Test c.in_default.not-Begin h turn
