use Rattle.theorems.proofs.Loaded.{loads_are_whole}
use Rattle.theorems.proofs.loads_are_whole.Goals as goal

pub returns : goal.returns
returns c = loads_are_whole
