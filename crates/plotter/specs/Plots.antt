-- From the text of blocks to the text of their places.
use Rattle.std.specs.Prelude.{◌≡◌, ℕ, List, [], ◌∷◌, ◌++◌, map, take, Some, Ok, Err, Result}
use Rattle.rules.specs.declared.blocks.Size.{Size}
use Rattle.rules.specs.declared.placements.Placement.{Placement}
use Rattle.rules.specs.declared.refusals.Refusal.{Refusal}
use Rattle.rules.specs.Plans.{Plan}
use Rattle.rules.specs.Loads.{given_plan}
use Rattle.names.specs.declared.entries.Entry.{Entry}
use Rattle.writer.specs.Texts.{header, line}
use Rattle.writer.specs.Readings.{Told, read_pl}
use Rattle.heap_tree.specs.Heap.{heap_given}

-- the size that an entry tells
abbrev pub size_of : Entry → Size
size_of e = e.size

-- the plan of the blocks: block 0 is the root, blocks 2k + 1 and 2k + 2 are the left and the right child of block k, all free
abbrev pub plan_of_entries : List Entry → Plan
plan_of_entries es = given_plan (heap_given (map size_of es))

-- the lines of names, each with its place
unfoldable pub named_lines : List (List ℕ) → List Placement → List ℕ
named_lines [] ps = []
named_lines (n ∷ ns) [] = []
named_lines (n ∷ ns) (p ∷ ps) = line n p.x p.y ++ named_lines ns ps

-- the .pl text that has them
unfoldable pub named_text : List (List ℕ) → List Placement → List ℕ
named_text ns ps = header ++ named_lines ns ps

-- names, each with its place
unfoldable pub told_places : List (List ℕ) → List Placement → List Told
told_places [] ps = []
told_places (n ∷ ns) [] = []
told_places (n ∷ ns) (p ∷ ps) = record { name = n; x = p.x; y = p.y } ∷ told_places ns ps

-- what an accepted plot left at the front of the bytes tells these names, in order, each with its place
abbrev pub Tells : List (List ℕ) → List Placement → List ℕ → Result ℕ Refusal → Type 0
Tells ns ps after (Ok n) = read_pl (take n after) ≡ Some (told_places ns ps)
Tells ns ps after (Err e) = Unit {0}
