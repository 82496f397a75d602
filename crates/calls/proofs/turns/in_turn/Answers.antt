use Rattle.std.proofs.Common.{◌≡◌, Some, Err, sym, ap, ◌∙◌, rules}
use Rattle.calls.specs.Turns.{turned}
use Rattle.calls.specs.Said.{said, as_state}
use Rattle.calls.proofs.Turning.{was_some, was_none, first_out_here, first_out_later, first_out_none}
use Rattle.calls.proofs.turns.in_turn.Goals as goal

pub loop-i-preserved : goal.loop-i-preserved
loop-i-preserved c = λ records.
    let next = ap as_state (sym (was_some c.after.result _ c.in_ok-state.state c.in_ok-state.ensures.value)) ∙ c.after.ensures records in
    first_out_later (said records) c.args.calls.now c.loop-i.i _ c.loop-i-test.true (as_state (Some c.loop-i.state)) c.in_ok-state.state next
    ∙ c.loop-i.invariant records

pub returns-in_err-state : goal.returns-in_err-state
returns-in_err-state c = λ records.
    let none = was_none c.after.result _ _ c.in_err-state.ensures.value in
    let found =
    first_out_here (said records) c.args.calls.now c.loop-i.i _ c.loop-i-test.true (as_state (Some c.loop-i.state)) (ap as_state (sym none.0) ∙ c.after.ensures records)
    ∙ c.loop-i.invariant records in
    let told : c.from_residual.result ≡ Err c.in_err-state.field-0.0 = search rules in
    told ∙ ap Err none.1 ∙ ap turned found

pub returns : goal.returns
returns c = λ records.
    ap turned (first_out_none (said records) c.args.calls.now c.loop-i.i (as_state (Some c.loop-i.state)) c.loop-i-test.false ∙ c.loop-i.invariant records)
