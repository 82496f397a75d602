use Rattle.std.proofs.Common.{◌≡◌, ap, ◌∙◌, subst}
use Rattle.plan.specs.Meaning.{rows, root_of}
use Rattle.plan.specs.Sound.{plan_of}
use Rattle.packer.specs.Gives.{PackGives}
use Rattle.packer.specs.Shows.{PackShows}
use Rattle.calls.proofs.Handing.{plan_in, in_book, pack_told, pack_promises}
use Rattle.calls.proofs.desk.Desk.pack.Goals as goal

pub returns : goal.returns
returns g c =
    let desk = c.args.self.now in
    let same : plan_of (rows c.plan.result.now) (root_of c.plan.result.now) ≡ plan_in desk = ap (λ p. plan_of (rows p) (root_of p)) c.plan.ensures in
    let shows = subst (λ p. PackShows p (g.S.Skyline.meaning c.pack.new.skyline) c.pack.new.places c.pack.result) same c.pack.ensures.shows in
    record {
      gives = λ cs h. subst (λ p. PackGives g.S.Skyline.meaning p c.args.skyline.now c.pack.new.skyline c.args.spots.now c.pack.new.walk c.args.places.now c.pack.new.places c.pack.result) (same ∙ in_book cs desk h) c.pack.ensures.gives;
      told = λ cs h. pack_told cs desk shows h;
      promise = λ cs h. pack_promises cs desk shows h;
    }
