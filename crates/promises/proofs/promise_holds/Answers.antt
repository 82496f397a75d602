use Rattle.promises.proofs.Promising.{promise_holds, promise_of_settled, promise_of_tried}
use Rattle.promises.proofs.promise_holds.Goals as goal

pub returns : goal.returns
returns c = record { by_calls = promise_holds; settled = promise_of_settled; tried = promise_of_tried }
