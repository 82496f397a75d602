use Rattle.std.proofs.Common.{rules}
use Rattle.placed.proofs.Placing.{placed_largest}
use Rattle.placed.proofs.Placed.tallest.Goals as goal

pub returns : goal.returns
returns c = search (rules, placed_largest)
