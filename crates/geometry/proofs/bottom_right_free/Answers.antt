use Rattle.geometry.proofs.Branches.{bottom_right_free}
use Rattle.geometry.proofs.bottom_right_free.Goals as goal

pub returns : goal.returns
returns c = bottom_right_free
