use Rattle.theorems.proofs.Decided.{presence_by_last}
use Rattle.theorems.proofs.presence_by_last.Goals as goal

pub returns : goal.returns
returns c = presence_by_last
