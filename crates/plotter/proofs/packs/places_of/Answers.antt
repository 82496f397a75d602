use Rattle.std.proofs.Common.{rules}
use Rattle.plotter.proofs.Room.{room_for_all, not_refused, front, within}
use Rattle.plotter.proofs.packs.places_of.Goals as goal

pub unreachable-requires : goal.unreachable-requires
unreachable-requires c =
    not_refused _ _ _ _ c.pack.ensures.gives.answer c.in_default.is
    (room_for_all c.args.plan.now _ _ _ (search rules) (search rules) c.new-skyline.ensures.columns c.new-skyline.ensures.raises)

pub returns : goal.returns
returns c = record { within = within c.args.plan.now; places = front _ _ _ (c.pack.ensures.gives.records _ c.in-Ok.is) }
