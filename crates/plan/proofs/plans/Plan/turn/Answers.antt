use Rattle.plan.proofs.Changes.{after_turn}
use Rattle.plan.proofs.plans.Plan.turn.Goals as goal

pub invariant_of-self : goal.invariant_of-self
invariant_of-self c = let d = after_turn c.args.self.now c.args.i _ _ c.requires c.turn.ensures.items c.turn.ensures.root in record { sound = d.sound; fit = d.fit }

pub returns : goal.returns
returns c = (after_turn c.args.self.now c.args.i _ _ c.requires c.turn.ensures.items c.turn.ensures.root).plan
