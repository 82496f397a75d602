use Rattle.theorems.proofs.Pruning.{pruned_is_without}
use Rattle.theorems.proofs.pruned_is_without.Goals as goal

pub returns : goal.returns
returns c = pruned_is_without
