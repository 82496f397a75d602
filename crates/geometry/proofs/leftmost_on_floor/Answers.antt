use Rattle.geometry.proofs.Branches.{leftmost_on_floor}
use Rattle.geometry.proofs.leftmost_on_floor.Goals as goal

pub returns : goal.returns
returns c = leftmost_on_floor
