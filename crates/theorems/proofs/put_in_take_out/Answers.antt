use Rattle.std.proofs.Common.{ap}
use Rattle.rules.specs.declared.edits.Edit.TheVariants.{PutIn}
use Rattle.rules.specs.Edits.{edited, with_tree}
use Rattle.theorems.proofs.Trees.{take_out_put_in}
use Rattle.theorems.proofs.Passed.{tests_passed}
use Rattle.theorems.proofs.put_in_take_out.Goals as goal

pub returns : goal.returns
unfolding edited
returns c = λ p i j s h. ap (with_tree p) (take_out_put_in i j s p.tree (tests_passed p (PutIn i j s) h).out)
