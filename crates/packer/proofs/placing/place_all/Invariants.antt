use Rattle.std.proofs.Common.{length}
use Rattle.plan.specs.Sound.{plan_of}
use Rattle.plan.specs.Meaning.{rows, root_of}
use Rattle.packer.specs.Ahead.{ahead}
use Rattle.packer.proofs.Filling.{Filling}
use Rattle.packer.proofs.placing.place_all.Given as goal

abbrev pub invariant-loop-visit : goal.invariant-loop-visit
invariant-loop-visit g l =
    let means = g.S.Skyline.meaning in
    Filling (length (rows l.plan)) (plan_of (rows l.plan) (root_of l.plan)) (ahead l.visit-iterator) (means l.fn.skyline) (means l.skyline) l.fn.places l.places l.height
