use Rattle.plan.specs.Meaning.{tried_plan, before_plan, kept_next, tried_kept}
use Rattle.calls.proofs.Stepping.{tried_rest}
use Rattle.calls.proofs.performing.tried_step.Goals as goal

pub returns-in_default : goal.returns-in_default
returns-in_default c = λ records cs h turn.
    let t = c.args.trial in
    tried_rest records c.args.call.now cs (tried_plan t) (before_plan t) (kept_next t) (tried_kept t) c.in_default.not-Keep c.in_default.not-Undo h turn
