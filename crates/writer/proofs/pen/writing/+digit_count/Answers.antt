use Rattle.std.proofs.Common.{◌+◌, ap, ◌∙◌, arith, rules}
use Rattle.std.proofs.lemmas.Fmt.{length-decimal-le}
use Rattle.writer.proofs.Digits.{count_one, count_more}
use Rattle.writer.proofs.pen.writing.+digit_count.Goals as goal

pub returns-then-n-lt10 : goal.returns-then-n-lt10
returns-then-n-lt10 t c = record { is = count_one c.args.n (search rules); few = search rules }

pub returns-else-n-lt10 : goal.returns-else-n-lt10
returns-else-n-lt10 t c =
    let e = ap (λ k. k + 1) c.digit_count.ensures.is ∙ count_more c.args.n (search rules) (search rules) in
    record { is = e; few = omega (arith, e, length-decimal-le 10 c.args.n (omega arith) (search rules) (search rules)) }
