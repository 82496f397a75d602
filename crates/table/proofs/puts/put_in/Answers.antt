use Rattle.std.proofs.Common.{arith}
use Rattle.std.proofs.lemmas.Grind.{common_steps}
use Rattle.table.proofs.Putting.{put_in_keeps, put_in_holds}
use Rattle.table.proofs.puts.put_in.Goals as goal

pub returns-then-root-eq-NONE-clause-tree : goal.returns-then-root-eq-NONE-clause-tree
returns-then-root-eq-NONE-clause-tree c = put_in_holds c.args.i c.args.j c.args.side c.args.root c.args.blocks.now _ _ (grind (arith, common_steps)) (grind (arith, common_steps))

pub returns-then-j-blocks-clause-keeps : goal.returns-then-j-blocks-clause-keeps
returns-then-j-blocks-clause-keeps c = put_in_keeps c.args.i c.args.j c.args.side c.args.root c.args.blocks.now _ (grind (arith, common_steps))

pub returns-then-j-blocks-clause-tree : goal.returns-then-j-blocks-clause-tree
returns-then-j-blocks-clause-tree c = put_in_holds c.args.i c.args.j c.args.side c.args.root c.args.blocks.now _ _ (grind (arith, common_steps)) (grind (arith, common_steps))
