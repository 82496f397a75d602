use Rattle.std.proofs.Common.{ap}
use Rattle.rules.specs.Edits.{edited, with_tree}
use Rattle.theorems.proofs.Trees.{swap_swap}
use Rattle.theorems.proofs.swap_twice.Goals as goal

pub returns : goal.returns
unfolding edited
returns c = λ p i j. ap (with_tree p) (swap_swap i j p.tree)
