use Rattle.std.proofs.Common.{arith}
use Rattle.steps.proofs.Searched.{searched}
use Rattle.steps.proofs.Heights.{met_largest}
use Rattle.steps.proofs.steps.Steps.meet.Goals as goal

pub returns-clause-largest : goal.returns-clause-largest
returns-clause-largest c =
    met_largest c.args.self.now _ _ _ _ _ _ c.in_use-runs.ensures c.args.span.nonempty
    (record { forward = c.last_before-last.ensures.forward; left = c.place_near-first.ensures; right = c.last_before-last.ensures.last })
    c.highest_top-highest.ensures

pub place_near-first-requires : goal.place_near-first-requires
place_near-first-requires c = searched c.args.self.now _ _ c.in_use-runs.ensures (omega arith)

pub last_before-last-requires-clause-reach : goal.last_before-last-requires-clause-reach
last_before-last-requires-clause-reach c = searched c.args.self.now _ _ c.in_use-runs.ensures (omega arith)
