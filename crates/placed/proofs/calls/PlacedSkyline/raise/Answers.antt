use Rattle.std.proofs.Common.{rules}
use Rattle.placed.proofs.Placing.{placed_raised, kept_behind}
use Rattle.placed.proofs.calls.PlacedSkyline.raise.Goals as goal

pub returns-clause-raised : goal.returns-clause-raised
returns-clause-raised c = search (rules, placed_raised)

pub returns-clause-behind : goal.returns-clause-behind
returns-clause-behind c = kept_behind c.args.self.now c.place.new.self _ (search rules) c.place.ensures.more
