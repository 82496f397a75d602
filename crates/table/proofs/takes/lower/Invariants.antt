use Rattle.std.proofs.Common.{◌≡◌, ◌-◌, ◌^◌, ◌<◌, length}
use Rattle.table.specs.Tables.{lowered}
use Rattle.table.proofs.takes.lower.Given as goal

abbrev pub invariant-loop : goal.invariant-loop
invariant-loop l =
    (lowered (length l.initial.blocks - l.counter) l.hung l.under l.blocks ≡ lowered (length l.initial.blocks) l.first l.start l.initial.blocks)
    × (l.under < 2 ^ 16)
