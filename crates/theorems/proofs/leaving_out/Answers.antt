use Rattle.theorems.proofs.LeftOut.{leaving_out}
use Rattle.theorems.proofs.leaving_out.Goals as goal

pub returns : goal.returns
returns c = leaving_out
