use Rattle.std.proofs.Common.{refl}
use Rattle.rules.specs.Loads as loads
use Rattle.rules.specs.Links as links
use Rattle.calls.proofs.performing.renewed.Goals as goal

-- a load of no blocks gives a new plan
pub returns : goal.returns
unfolding loads.load_refusal loads.first loads.given_plan links.tree_of links.grow
returns c = record { state = refl; in_book = c.load.ensures.plan; counted = c.load.ensures.kept }
