use Rattle.promises.proofs.Relating.{one_packing}
use Rattle.promises.proofs.one_packing.Goals as goal

pub returns : goal.returns
returns c = one_packing
