use Rattle.promises.proofs.Promising.{pruned_promise}
use Rattle.promises.proofs.pruned_promise.Goals as goal

pub returns : goal.returns
returns c = pruned_promise
