-- Runs in the front of lent memory.
use Rattle.std.specs.Prelude.{ℕ, List, length, take}
use Rattle.skyline.specs.declared.spans.Run.{Run}
use Rattle.steps.specs.declared.runs.Runs.{Runs}

-- the runs in use
unfoldable pub in_use : Runs → List Run
in_use s = take s.used s.memory.now

-- how many runs the memory has room for
unfoldable pub room : Runs → ℕ
room s = length s.memory.now
