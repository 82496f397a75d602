use Rattle.promises.proofs.Breaking.{promise_tells}
use Rattle.promises.proofs.promise_tells.Goals as goal

pub returns : goal.returns
returns c = promise_tells
