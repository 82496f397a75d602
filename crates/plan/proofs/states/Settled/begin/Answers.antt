use Rattle.std.proofs.Common.{rules}
use Rattle.theorems.proofs.Following.{follows_begin}
use Rattle.plan.specs.Meaning.{settled_plan, settled_kept}
use Rattle.plan.proofs.states.Settled.begin.Goals as goal

pub returns-then-is_err-clause-told : goal.returns-then-is_err-clause-told
returns-then-is_err-clause-told c =
    follows_begin c.args.edit (settled_plan c.args.self) _ _ (settled_kept c.args.self) _ _ (search rules) (search rules) (search rules) (search rules)

pub returns-clause-told : goal.returns-clause-told
returns-clause-told c =
    follows_begin c.args.edit (settled_plan c.args.self) _ _ (settled_kept c.args.self) _ _ (search rules) (search rules) (search rules) (search rules)
