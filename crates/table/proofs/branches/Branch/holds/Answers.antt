use Rattle.std.proofs.Common.{◌∙◌, refl, eqb, rules}
use Rattle.std.proofs.lemmas.Iterator.Search.{any_from_yields_List}
use Rattle.table.specs.Walks.{ahead}
use Rattle.table.proofs.Walking.{walks, any_among}
use Rattle.table.proofs.branches.Branch.holds.Goals as goal

pub returns : goal.returns
returns c =
    let is = ahead c.args.self in
    any_from_yields_List (λ k. eqb c.args.i k) c.any.new.self _ _ c.any.ensures.ran (walks c.args.self is refl) (λ x b q k. search rules) ∙ any_among c.args.i is
