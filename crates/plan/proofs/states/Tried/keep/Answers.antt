use Rattle.std.proofs.Common.{rules}
use Rattle.theorems.proofs.Following.{follows_keep}
use Rattle.plan.specs.Meaning.{tried_plan, before_plan, kept_next, tried_kept}
use Rattle.plan.proofs.states.Tried.keep.Goals as goal

pub returns-clause-told : goal.returns-clause-told
returns-clause-told c =
    let t = c.args.self in
    follows_keep (tried_plan t) (before_plan t) _ (kept_next t) (tried_kept t) c.match-before.spare.1 (search rules) (search rules)
