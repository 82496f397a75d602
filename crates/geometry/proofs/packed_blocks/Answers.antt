use Rattle.geometry.proofs.Standing.{packed_blocks}
use Rattle.geometry.proofs.packed_blocks.Goals as goal

pub returns : goal.returns
returns c = packed_blocks
