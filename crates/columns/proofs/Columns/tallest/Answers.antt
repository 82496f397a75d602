use Rattle.std.proofs.Common.{refl, arith}
use Rattle.std.proofs.lemmas.List.Edits.{length-between}
use Rattle.columns.proofs.Levels.{largest_part}
use Rattle.columns.proofs.Columns.tallest.Goals as goal

pub returns : goal.returns
returns c =
    let xs = c.args.self.now.heights.now in
    let size = length-between xs c.args.span.start c.args.span.end (omega arith) in
    largest_part _ xs _ _ _ (omega arith) (omega arith) (λ k. refl) c.largest.ensures.bounds (c.largest.ensures.met (omega arith))
