use Rattle.std.proofs.Common.{◌≡◌, ◌-◌, drop, sym, subst, arith}
use Rattle.std.proofs.Math.Seq.{paste}
use Rattle.steps.proofs.Replacing.{stays}
use Rattle.steps.proofs.runs.ops.shift.Goals as goal

pub returns-else-from-to-clause-moved : goal.returns-else-from-to-clause-moved
returns-else-from-to-clause-moved c =
    let xs = c.args.runs.now in
    let count = c.args.past - c.args.from in
    let same : c.args.from ≡ c.args.to = omega arith in
    subst (λ k. xs ≡ paste xs k (drop c.args.from xs) count) same (sym (stays xs c.args.from count))
