use Rattle.std.proofs.Common.{◌≡◌, map, take, drop}
use Rattle.reader.specs.Text.{entry_of}
use Rattle.reader.specs.Found.{block_of}
use Rattle.reader.proofs.read.fill.Given as goal

abbrev pub invariant-loop-i : goal.invariant-loop-i
invariant-loop-i l =
    (take l.i l.records ≡ map entry_of (map block_of (take l.i l.found))) × (drop l.i l.records ≡ drop l.i l.initial.records)
