use Rattle.std.proofs.Common.{rules}
use Rattle.heap_tree.specs.Heap.{child_pair}
use Rattle.heap_tree.proofs.Calls.{made_by}
use Rattle.heap_tree.proofs.links.child_pairs.Goals as goal

pub returns : goal.returns
returns c = made_by _ _ (child_pair c.args.blocks) (record { left = 0; right = 0 }) (λ i y q k. search rules) c.from_fn.result 512 c.from_fn.ensures.items
