use Rattle.plan.proofs.Changes.{after_swap}
use Rattle.plan.proofs.plans.Plan.swap.Goals as goal

pub invariant_of-self : goal.invariant_of-self
invariant_of-self c = let d = after_swap c.args.self.now c.args.i c.args.j _ _ c.requires c.swap.ensures.keeps c.swap.ensures.tree in record { sound = d.sound; fit = d.fit }

pub returns : goal.returns
returns c = (after_swap c.args.self.now c.args.i c.args.j _ _ c.requires c.swap.ensures.keeps c.swap.ensures.tree).plan
