use Rattle.geometry.proofs.Standing.{no_overlap, no_overlap_by_number}
use Rattle.geometry.proofs.no_overlap.Goals as goal

pub returns : goal.returns
returns c = record { listed = no_overlap; numbered = no_overlap_by_number }
