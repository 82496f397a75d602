use Rattle.theorems.proofs.Pruning.{pruned_is_lasting}
use Rattle.theorems.proofs.pruned_is_lasting.Goals as goal

pub returns : goal.returns
returns c = pruned_is_lasting
