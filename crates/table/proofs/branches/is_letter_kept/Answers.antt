use Rattle.std.proofs.Common.{rules}
use Rattle.table.proofs.Branching.{by_tree}
use Rattle.table.proofs.branches.is_letter_kept.Goals as goal

pub returns-in-Bottom-clause-tree : goal.returns-in-Bottom-clause-tree
returns-in-Bottom-clause-tree c = by_tree c.args.blocks.now c.args.root c.args.i c.args.letter _ (search rules)

pub returns-in-Left-clause-tree : goal.returns-in-Left-clause-tree
returns-in-Left-clause-tree c = by_tree c.args.blocks.now c.args.root c.args.i c.args.letter _ (search rules)

pub returns-in-Right-clause-tree : goal.returns-in-Right-clause-tree
returns-in-Right-clause-tree c = by_tree c.args.blocks.now c.args.root c.args.i c.args.letter _ (search rules)

pub returns-in-Top-clause-tree : goal.returns-in-Top-clause-tree
returns-in-Top-clause-tree c = by_tree c.args.blocks.now c.args.root c.args.i c.args.letter _ (search rules)
