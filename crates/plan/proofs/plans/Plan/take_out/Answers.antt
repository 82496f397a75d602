use Rattle.plan.proofs.Changes.{after_take}
use Rattle.plan.proofs.plans.Plan.take_out.Goals as goal

pub invariant_of-self : goal.invariant_of-self
invariant_of-self c = let d = after_take c.args.self.now c.args.i _ _ c.requires c.take_out.ensures.keeps c.take_out.ensures.tree in record { sound = d.sound; fit = d.fit }

pub returns : goal.returns
returns c = (after_take c.args.self.now c.args.i _ _ c.requires c.take_out.ensures.keeps c.take_out.ensures.tree).plan
