use Rattle.std.proofs.Common.{◌<◌, length, get_or, arith}
use Rattle.std.proofs.lemmas.List.{get_or_default}
use Rattle.std.proofs.lemmas.List.Edits.{map_over_more}
use Rattle.table.specs.Tables.{blank, relinked}
use Rattle.table.proofs.renames.rename_links.Goals as goal

pub loop-b-preserved : goal.loop-b-preserved
loop-b-preserved g c =
    let i = c.loop-b.b-index in
    let xs = c.args.blocks.now in
    let x = get_or c.loop-b.blocks i blank in
    let l : i < length c.loop-b.blocks = omega arith in
    let m : i < length xs = omega arith in
    let e = map_over_more (relinked (g.R.Renaming.renames c.args.by.now)) xs c.loop-b.blocks i x m c.loop-b.invariant (get_or_default c.loop-b.blocks i blank x l) in
    simp (c.rename-b.ensures, c.rename-b-in-loop-b.ensures) e
