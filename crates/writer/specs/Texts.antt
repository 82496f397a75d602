-- The .pl text of placed blocks, and the line of a refusal.
use Rattle.std.specs.Prelude.{ℕ, cond, List, [], ◌∷◌, ◌++◌, codes, decimal, ◌==◌}
use Rattle.rules.specs.declared.placements.Placement.{Placement}
use Rattle.rules.specs.declared.refusals.Refusal.{Refusal}
use Rattle.rules.specs.Refusals.{refusal_text}
use Rattle.names.specs.declared.entries.Entry.{Entry}
use Rattle.names.specs.Entries.{marked}

-- the first line, and an empty one
abbrev pub header : List ℕ
header = codes "UCLA pl 1.0\n\n"

-- a name, x and y, parted by one space, with LF
abbrev pub line : List ℕ → ℕ → ℕ → List ℕ
line name x y = name ++ (codes " " ++ (decimal x ++ (codes " " ++ (decimal y ++ codes "\n"))))

-- a block's line; an absent block, of width 0, has none
unfoldable pub line_of : List ℕ → Entry → Placement → List ℕ
line_of text e p = cond (p.width == 0) [] (line (marked text e) p.x p.y)

-- the lines of the blocks, in number order
unfoldable pub lines_of : List ℕ → List Entry → List Placement → List ℕ
lines_of text [] ps = []
lines_of text (e ∷ es) [] = []
lines_of text (e ∷ es) (p ∷ ps) = line_of text e p ++ lines_of text es ps

-- the .pl text
unfoldable pub pl_text : List ℕ → List Entry → List Placement → List ℕ
pl_text text es ps = header ++ lines_of text es ps

-- a refusal's number and place, between the words of its line, with LF
abbrev pub refused : ℕ → ℕ → List ℕ
refused n p = codes "refused " ++ (decimal n ++ (codes " at " ++ (decimal p ++ codes "\n")))

-- the line of a refusal: its text, with LF
unfoldable pub refusal_line : Refusal → List ℕ
refusal_line r = refusal_text r ++ codes "\n"
