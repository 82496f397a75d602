-- Reading a .pl text back.
use Rattle.std.specs.Prelude.{◌≡◌, ℕ, ◌<◌, cond, ◌&&◌, List, [], ◌∷◌, take, Some, None, Ok, Err, codes, Option, Result, ◌==◌}
use Rattle.std.specs.Str.{bytes_eq}
use Rattle.rules.specs.declared.placements.Placement.{Placement}
use Rattle.rules.specs.declared.refusals.Refusal.{Refusal}
use Rattle.words.specs.Words.{Word, onto, words}
use Rattle.words.specs.Numbers.{number_of}
use Rattle.names.specs.declared.entries.Entry.{Entry}
use Rattle.names.specs.Names.{is_name}
use Rattle.names.specs.Entries.{marked}

-- a block as a .pl text tells it
pub record Told : Type 0 where
  pub name : List ℕ
  pub x : ℕ
  pub y : ℕ

-- the lines of a text, each ended by LF, the last one perhaps not
unfoldable pub lines : List ℕ → List (List ℕ)
lines [] = []
lines (b ∷ bs) = cond (b == 10) ([] ∷ lines bs) (onto b (lines bs))

-- a block of that name, at two numbers
abbrev pub told_at : Word → Option ℕ → Option ℕ → Option Told
told_at name (Some x) (Some y) = Some (record { name = name; x = x; y = y })
told_at name (Some x) None = None
told_at name None y = None

-- what three words tell, if they are a name and two numbers
abbrev pub told_by : List Word → Option Told
told_by [] = None
told_by (a ∷ []) = None
told_by (a ∷ b ∷ []) = None
told_by (a ∷ b ∷ c ∷ []) = cond (is_name a) (told_at a (number_of b) (number_of c)) None
told_by (a ∷ b ∷ c ∷ d ∷ ws) = None

-- one block in front of others, if all are told
abbrev pub in_front : Option Told → Option (List Told) → Option (List Told)
in_front (Some t) (Some ts) = Some (t ∷ ts)
in_front (Some t) None = None
in_front None ts = None

-- what the lines tell, if each of them tells a block
unfoldable pub told_by_lines : List (List ℕ) → Option (List Told)
told_by_lines [] = Some []
told_by_lines (l ∷ ls) = in_front (told_by (words l)) (told_by_lines ls)

-- the header, an empty line, and lines that each tell a block
abbrev pub told_under : List (List ℕ) → Option (List Told)
told_under [] = None
told_under (h ∷ []) = None
told_under (h ∷ e ∷ ls) = cond (bytes_eq h (codes "UCLA pl 1.0") && bytes_eq e []) (told_by_lines ls) None

-- the blocks that a .pl text tells
abbrev pub read_pl : List ℕ → Option (List Told)
read_pl text = told_under (lines text)

-- the present blocks with their names in the text and their places, in number order
unfoldable pub placed_blocks : List ℕ → List Entry → List Placement → List Told
placed_blocks text [] ps = []
placed_blocks text (e ∷ es) [] = []
placed_blocks text (e ∷ es) (p ∷ ps) =
    cond (p.width == 0) (placed_blocks text es ps) (record { name = marked text e; x = p.x; y = p.y } ∷ placed_blocks text es ps)

-- each x and y has at most 9 digits
abbrev pub Short : List Placement → Type 0
Short [] = Unit {0}
Short (p ∷ ps) = (p.x < 1000000000) × (p.y < 1000000000) × Short ps

-- what an accepted writing left at the front of the bytes tells the present blocks, and nothing else
abbrev pub ReadBack : List ℕ → List Entry → List Placement → List ℕ → Result ℕ Refusal → Type 0
ReadBack text es ps after (Ok n) = Short ps → read_pl (take n after) ≡ Some (placed_blocks text es ps)
ReadBack text es ps after (Err e) = Unit {0}
