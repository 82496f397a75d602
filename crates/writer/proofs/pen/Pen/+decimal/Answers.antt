use Rattle.std.proofs.Common.{subst, sym, arith, rules}
use Rattle.std.proofs.lemmas.Fmt.{decimal_digit, decimal_step}
use Rattle.writer.specs.Bytes.{Added}
use Rattle.writer.proofs.Adding.{added_more}
use Rattle.writer.proofs.Digits.{count_one, count_more}
use Rattle.writer.proofs.pen.Pen.+decimal.Goals as goal

pub bytes-requires : goal.bytes-requires
bytes-requires t c = omega (arith, c.requires, count_one c.args.n (search rules))

pub returns-then-n-lt10-clause-added : goal.returns-then-n-lt10-clause-added
returns-then-n-lt10-clause-added t c = subst (λ ds. Added c.args.self.now ds c.bytes.new.self) (sym (decimal_digit c.args.n (search rules))) c.bytes.ensures.added

pub decimal-requires : goal.decimal-requires
decimal-requires t c = (search rules, omega (arith, c.requires, count_more c.args.n (search rules) (search rules)))

pub bytes-requires-2 : goal.bytes-requires-2
bytes-requires-2 t c = omega (arith, c.requires, count_more c.args.n (search rules) (search rules), c.decimal.ensures.added.room)

pub returns-clause-added : goal.returns-clause-added
returns-clause-added t c =
    subst (λ ds. Added c.args.self.now ds c.bytes-2.new.self) (sym (decimal_step c.args.n (search rules) (search rules)))
    (added_more c.decimal.ensures.added c.bytes-2.ensures.added)
