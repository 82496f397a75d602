use Rattle.geometry.proofs.Standing.{all_stand, all_stand_by_number}
use Rattle.geometry.proofs.all_stand.Goals as goal

pub returns : goal.returns
returns c = record { listed = all_stand; numbered = all_stand_by_number }
