use Rattle.std.proofs.Common.{length, take, ap, ◌∙◌}
use Rattle.std.proofs.lemmas.List.{take-replicate}
use Rattle.std.proofs.lemmas.List.FromFn.{take-map-range_with_len}
use Rattle.heap_tree.specs.Heap.{heap_given, heap_children, child_pair}
use Rattle.heap_tree.proofs.Loading.{loaded, too_many}
use Rattle.heap_tree.proofs.load.load_heap.Goals as goal

pub returns-clause-load : goal.returns-clause-load
unfolding heap_given heap_children
returns-clause-load c =
    let n = length c.args.sizes.now in
    let few = c.if-blocks-gt-MOST_BLOCKS.false in
    let children = ap (take n) c.child_pairs-children.ensures ∙ take-map-range_with_len (child_pair n) 0 512 n few in
    loaded c.args.sizes.now _ _ _ _ _ _
    (λ j. record { sizes = c.args.sizes.now; letters = take-replicate n 512 70 few j; children = children j; root = c.root_link.ensures j; walk = 512 })
    c.load.ensures

pub returns-then-blocks-gt-MOST_BLOCKS-clause-load : goal.returns-then-blocks-gt-MOST_BLOCKS-clause-load
returns-then-blocks-gt-MOST_BLOCKS-clause-load c = too_many c.args.sizes.now c.args.plan.now c.if-blocks-gt-MOST_BLOCKS.true
