use Rattle.std.proofs.Common.{sym, subst, arith}
use Rattle.std.proofs.lemmas.List.{with_items_is}
use Rattle.rules.specs.Trees.{swap}
use Rattle.table.specs.Tables.{Holds}
use Rattle.table.proofs.tables.Table.swap.Goals as goal

pub returns-clause-tree : goal.returns-clause-tree
returns-clause-tree c = λ t h b.
    let v = c.args.self.now.blocks in
    let s = c.swap_places-self in
    let held = subst (λ bs. Holds bs c.args.self.now.root t) (sym c.as_mut_slice.ensures.value) h in
    subst (λ bs. Holds bs s.result (swap c.args.i c.args.j t)) (sym (with_items_is v s.new.blocks (omega arith))) (s.ensures.tree t held b)
