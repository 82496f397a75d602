use Rattle.std.proofs.Common.{length, ap, ◌∙◌, subst, arith, rules}
use Rattle.writer.specs.Bytes.{Added}
use Rattle.writer.specs.Texts.{refusal_line}
use Rattle.writer.proofs.Answering.{too_long, short_enough, refuses, writes}
use Rattle.writer.proofs.Spans.{refusal_line_is}
use Rattle.writer.proofs.refusals.write_refusal.Goals as goal

pub returns-then-out-refused_len : goal.returns-then-out-refused_len
returns-then-out-refused_len c =
    let is = ap length (refusal_line_is c.args.refusal _ _ (c.from-number.ensures ∙ c.number.ensures) c.place-place.ensures) in
    refuses _ _ _ _ (too_long (refusal_line c.args.refusal) _ (omega (arith, is, c.refused_len.ensures, c.if-out-refused_len.true)))

pub returns : goal.returns
returns c =
    let is = refusal_line_is c.args.refusal _ _ (c.from-number.ensures ∙ c.number.ensures) c.place-place.ensures in
    writes _ (refusal_line c.args.refusal) c.args.out.now _ c.len.result c.over-pen.result c.write_refused.new.pen
    (short_enough (refusal_line c.args.refusal) _ (omega (arith, ap length is, c.refused_len.ensures, c.if-out-refused_len.false)))
    c.over-pen.ensures.written c.over-pen.ensures.ahead (subst (λ t. Added c.over-pen.result t c.write_refused.new.pen) is c.write_refused.ensures.added) (search rules) c.len.ensures
