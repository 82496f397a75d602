use Rattle.std.proofs.Common.{◌≡◌, map, vec_items}
use Rattle.plan.specs.Rows.{loaded_row}
use Rattle.plan.proofs.rows.fill.Given as goal

abbrev pub invariant-loop-size : goal.invariant-loop-size
invariant-loop-size l = vec_items l.table.blocks ≡ map (λ p. loaded_row p.0.0.now p.0.1.now p.1.now) l.yielded
