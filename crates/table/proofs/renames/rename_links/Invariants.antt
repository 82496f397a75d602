use Rattle.std.proofs.Common.{◌≡◌, ◌++◌, map, take, drop}
use Rattle.table.specs.Tables.{relinked}
use Rattle.table.proofs.renames.rename_links.Given as goal

abbrev pub invariant-loop-b : goal.invariant-loop-b
invariant-loop-b g l =
    l.blocks ≡ map (relinked (g.R.Renaming.renames l.by)) (take l.b-index l.initial.blocks) ++ drop l.b-index l.initial.blocks
