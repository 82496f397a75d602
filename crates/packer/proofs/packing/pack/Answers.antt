use Rattle.packer.proofs.Showing.{shows}
use Rattle.packer.proofs.packing.pack.Goals as goal

pub returns : goal.returns
returns g c = record { gives = c.pack_plan.ensures; shows = shows c.pack_plan.ensures }
