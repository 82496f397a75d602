use Rattle.std.proofs.Common.{arith}
use Rattle.std.proofs.lemmas.Grind.{common_steps}
use Rattle.table.proofs.Swapping.{swap_keeps, swap_holds}
use Rattle.table.proofs.swaps.swap_places.Goals as goal

pub returns-clause-keeps : goal.returns-clause-keeps
returns-clause-keeps c = swap_keeps c.args.i c.args.j c.args.blocks.now _ (grind (arith, common_steps))

pub returns-clause-tree : goal.returns-clause-tree
returns-clause-tree c = swap_holds c.args.i c.args.j c.args.blocks.now c.args.root _ _ (grind (arith, common_steps)) (grind (arith, common_steps))
