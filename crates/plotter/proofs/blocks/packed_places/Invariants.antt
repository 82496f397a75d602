use Rattle.std.proofs.Common.{◌≡◌, map, length, take}
use Rattle.plotter.specs.Plots.{size_of}
use Rattle.plotter.proofs.blocks.packed_places.Given as goal

-- the sizes at the front
abbrev pub invariant-loop-i : goal.invariant-loop-i
invariant-loop-i l = (length l.sizes ≡ 512) × (take l.i l.sizes ≡ map size_of (take l.i l.entries))
