use Rattle.std.proofs.Common.{map, length, take}
use Rattle.rules.specs.Book.{new_book}
use Rattle.calls.specs.Said.{said}
use Rattle.calls.specs.Desks.{DeskBy}
use Rattle.calls.specs.Runs.{memory, Performed}
use Rattle.calls.proofs.performing.perform.Given as goal

-- the calls so far are performed, and the plan in hand follows them
abbrev pub invariant-loop-call : goal.invariant-loop-call
invariant-loop-call g l =
    DeskBy (map (said (length l.initial.walk)) (take l.call-index l.calls)) l.desk
    × Performed g.S.Skyline.meaning new_book (map (said (length l.initial.walk)) (take l.call-index l.calls)) (memory l.initial.skyline l.initial.walk l.initial.spots l.initial.places) (memory l.skyline l.walk l.spots l.places)
