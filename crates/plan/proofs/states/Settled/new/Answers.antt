use Rattle.std.proofs.Common.{refl}
use Rattle.plan.proofs.Loads.{empty_plan}
use Rattle.plan.proofs.states.Settled.new.Goals as goal

pub invariant_of-result : goal.invariant_of-result
invariant_of-result c = let n = empty_plan c.in_ok-table.table c.in_ok-table.ensures.0 c.in_ok-table.ensures.1 in record { sound = n.sound; fit = n.fit }

pub returns-clause-plain : goal.returns-clause-plain
returns-clause-plain c = ((empty_plan c.in_ok-table.table c.in_ok-table.ensures.0 c.in_ok-table.ensures.1).plan, refl)

pub returns-clause-told : goal.returns-clause-told
returns-clause-told c = (empty_plan c.in_ok-table.table c.in_ok-table.ensures.0 c.in_ok-table.ensures.1).told
