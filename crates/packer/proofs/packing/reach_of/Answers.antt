use Rattle.std.proofs.Common.{◌∙◌, rules}
use Rattle.std.proofs.lemmas.Iterator.Consumers.{YieldsList-from_first, fold_from_yields_List}
use Rattle.plan.specs.Sound.{plan_of}
use Rattle.plan.specs.Meaning.{rows, root_of}
use Rattle.packer.specs.Walks.{visits}
use Rattle.packer.specs.Ahead.{ahead}
use Rattle.packer.proofs.Laying.{farther, widest}
use Rattle.packer.proofs.packing.reach_of.Goals as goal

pub returns : goal.returns
returns c =
    let p = plan_of (rows c.args.plan.now) (root_of c.args.plan.now) in
    fold_from_yields_List _ farther 0 c.fold.result c.fold.ensures.ran (YieldsList-from_first (λ v. v) ahead (visits p) c.new.ensures) (λ a x b q k. search rules) ∙ widest p
