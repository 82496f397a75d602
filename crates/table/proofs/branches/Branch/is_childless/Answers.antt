use Rattle.std.proofs.Common.{◌∙◌, refl, eqb, rules}
use Rattle.std.proofs.lemmas.Iterator.Search.{all_from_yields_List}
use Rattle.rules.specs.Sides.{child_on}
use Rattle.table.specs.Tables.{at}
use Rattle.table.specs.Walks.{ahead}
use Rattle.table.proofs.Walking.{walks, all_childless}
use Rattle.table.proofs.branches.Branch.is_childless.Goals as goal

pub returns : goal.returns
returns c =
    let bs = c.args.self.blocks.now in
    let is = ahead c.args.self in
    all_from_yields_List (λ k. eqb (child_on c.args.other (at bs k).children) 65535) c.all.new.self _ _ c.all.ensures.ran (walks c.args.self is refl) (λ x b q k. search rules)
    ∙ all_childless c.args.other bs is
