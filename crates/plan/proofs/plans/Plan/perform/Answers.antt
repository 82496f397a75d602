use Rattle.std.proofs.Common.{◌≤◌, vec_items, sym, ap, ◌∙◌, arith}
use Rattle.rules.specs.Trees.{count}
use Rattle.rules.specs.Edits.{edit_refusal, put_refusal}
use Rattle.rules.proofs.Counts.{flag_le}
use Rattle.table.specs.Tables.{at}
use Rattle.plan.specs.Sound.{plan_of}
use Rattle.plan.specs.Meaning.{meant}
use Rattle.plan.proofs.Passing.{mover_present, mover_fits}
use Rattle.plan.proofs.plans.Plan.perform.Goals as goal

pub take_out-requires-in-Move : goal.take_out-requires-in-Move
unfolding edit_refusal
take_out-requires-in-Move c =
    mover_present (meant c.args.self.now.table) c.in-Move.i c.in-Move.j (ap (edit_refusal (meant c.args.self.now.table)) (sym c.in-Move.is) ∙ c.requires)

pub put_in-requires-in-Move : goal.put_in-requires-in-Move
unfolding edit_refusal plan_of
put_in-requires-in-Move c =
    let t = c.args.self.now.table in
    let once : count c.in-Move.i (meant t).tree ≤ 1
    = omega (arith, c.args.self.now.sound.1 c.in-Move.i, flag_le (at (vec_items t.blocks) c.in-Move.i).present) in
    ap (λ p. put_refusal p c.in-Move.i c.in-Move.j) c.take_out-in-Move.ensures
    ∙ mover_fits (meant t) c.in-Move.i c.in-Move.j once (ap (edit_refusal (meant t)) (sym c.in-Move.is) ∙ c.requires)
