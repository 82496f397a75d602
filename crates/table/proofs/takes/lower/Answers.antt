use Rattle.std.proofs.Common.{◌≡◌, suc, ◌+◌, ◌-◌, length, sym, ◌∙◌, arith, rules}
use Rattle.table.proofs.Lowering.{lowered_out, lowered_none, lowered_last, lowered_stop, lowered_more}
use Rattle.table.proofs.takes.lower.Goals as goal

pub returns-then-under-blocks : goal.returns-then-under-blocks
returns-then-under-blocks c =
    let l = c.loop in
    sym (lowered_out (length c.args.blocks.now - l.counter) l.hung l.under l.blocks c.if-under-blocks.true) ∙ l.invariant.0

pub returns-then-right : goal.returns-then-right
returns-then-right c =
    let l = c.loop in
    let e : length c.args.blocks.now - l.counter ≡ suc (length c.args.blocks.now - (l.counter + 1)) = omega arith in
    sym (lowered_last _ _ l.hung l.under l.blocks e c.if-under-blocks.false c.if-right.true) ∙ l.invariant.0

pub returns-then-left : goal.returns-then-left
returns-then-left c =
    let l = c.loop in
    let e : length c.args.blocks.now - l.counter ≡ suc (length c.args.blocks.now - (l.counter + 1)) = omega arith in
    sym (lowered_stop _ _ l.hung l.under l.blocks e c.if-under-blocks.false c.if-right.false c.if-left.true) ∙ l.invariant.0

pub loop-preserved : goal.loop-preserved
loop-preserved c =
    let l = c.loop in
    let e : length c.args.blocks.now - l.counter ≡ suc (length c.args.blocks.now - (l.counter + 1)) = omega arith in
    (sym (lowered_more _ _ l.hung l.under l.blocks e c.if-under-blocks.false c.if-right.false c.if-left.false) ∙ l.invariant.0, search rules)

pub returns : goal.returns
returns c = sym (lowered_none (length c.args.blocks.now - c.loop.counter) c.loop.hung c.loop.under c.loop.blocks (omega arith)) ∙ c.loop.invariant.0
