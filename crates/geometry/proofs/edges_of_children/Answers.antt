use Rattle.geometry.proofs.Edges.{edges_of_children}
use Rattle.geometry.proofs.edges_of_children.Goals as goal

pub returns : goal.returns
returns c = edges_of_children
