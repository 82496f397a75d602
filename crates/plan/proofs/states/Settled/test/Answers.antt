use Rattle.theorems.proofs.Following.{follows_test}
use Rattle.plan.specs.Meaning.{settled_plan, settled_kept}
use Rattle.plan.proofs.states.Settled.test.Goals as goal

pub returns-clause-told : goal.returns-clause-told
returns-clause-told c = follows_test c.args.edit (settled_plan c.args.self.now) (settled_kept c.args.self.now)
