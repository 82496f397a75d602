use Rattle.geometry.proofs.Edges.{rightmost_at_left}
use Rattle.geometry.proofs.rightmost_at_left.Goals as goal

pub returns : goal.returns
returns c = rightmost_at_left
