use Rattle.plan.proofs.Changes.{after_put}
use Rattle.plan.proofs.plans.Plan.put_in.Goals as goal

pub invariant_of-self : goal.invariant_of-self
invariant_of-self c = let d = after_put c.args.self.now c.args.i c.args.j c.args.side _ _ c.requires c.put_in.ensures.keeps c.put_in.ensures.tree in record { sound = d.sound; fit = d.fit }

pub returns : goal.returns
returns c = (after_put c.args.self.now c.args.i c.args.j c.args.side _ _ c.requires c.put_in.ensures.keeps c.put_in.ensures.tree).plan
