use Rattle.std.proofs.Common.{arith}
use Rattle.std.proofs.lemmas.Grind.{common_steps}
use Rattle.table.proofs.Taking.{take_keeps, take_holds}
use Rattle.table.proofs.takes.take_out.Goals as goal

pub returns-clause-keeps : goal.returns-clause-keeps
returns-clause-keeps c = take_keeps c.args.i c.args.blocks.now _ (grind (arith, common_steps))

pub returns-clause-tree : goal.returns-clause-tree
returns-clause-tree c = take_holds c.args.i c.args.blocks.now c.args.root _ _ (grind (arith, common_steps)) (grind (arith, common_steps))
