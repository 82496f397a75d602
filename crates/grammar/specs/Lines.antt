-- The lines of a text.
use Rattle.std.specs.Prelude.{◌≡◌, ℕ, ◌+◌, ◌<◌, Bool, true, false, cond, ◌&&◌, ◌||◌, List, [], ◌∷◌, length, Some, None, Option, ◌==◌}
use Rattle.std.specs.Borrow.{Bor}
use Rattle.words.specs.Lines.{behind_line}
use Rattle.grammar.specs.Words.{words}

-- whether bytes begin with this one
abbrev pub begins : ℕ → List ℕ → Bool
begins c [] = false
begins c (b ∷ bs) = b == c

-- whether a line ends here: at LF, or at CR with LF straight behind it
abbrev pub ends_here : ℕ → List ℕ → Bool
ends_here b bs = b == 10 || (b == 13 && begins 10 bs)

-- the first line of a text, without its end
unfoldable pub line_of : List ℕ → List ℕ
line_of [] = []
line_of (b ∷ bs) = cond (ends_here b bs) [] (b ∷ line_of bs)

-- a line of a text: its number, where it begins, and its bytes without its end
pub record Line : Type 0 where
  pub number : ℕ
  pub start : ℕ
  pub bytes : List ℕ

-- the line in front of the others, if one begins here
abbrev pub begun : Bool → Line → List Line → List Line
begun true l ls = l ∷ ls
begun false l ls = ls

-- The lines of bytes that stand from this place on, where the line of this number begins or goes on: a line begins at the start
-- of a text and straight behind each LF.
unfoldable pub lines_from : Bool → ℕ → ℕ → List ℕ → List Line
lines_from fresh number place [] = []
lines_from fresh number place (b ∷ bs) =
    begun fresh (record { number = number; start = place; bytes = line_of (b ∷ bs) })
    (cond (b == 10) (lines_from true (number + 1) (place + 1) bs) (lines_from false number (place + 1) bs))

-- whether there is nothing in a list
abbrev pub none : {A : Type 0} → List A → Bool
none [] = true
none (x ∷ xs) = false

-- a blank line, or one that begins with #
abbrev pub skipped : List ℕ → Bool
skipped bs = begins 35 bs || none (words bs)

-- of these lines those that are used
unfoldable pub used : List Line → List Line
used [] = []
used (l ∷ ls) = cond (skipped l.bytes) (used ls) (l ∷ used ls)

-- the lines that are used of bytes that stand from this place on, where the line of this number begins
abbrev pub used_from : ℕ → ℕ → List ℕ → List Line
used_from number place bs = used (lines_from true number place bs)

-- An empty text has no line. Of any other the first line and what is behind it, which is shorter than the text.
abbrev pub FirstLine : List ℕ → Option (Bor (List ℕ) × Bor (List ℕ)) → Type 0
FirstLine text None = text ≡ []
FirstLine text (Some p) = (p.0.now ≡ line_of text) × (p.1.now ≡ behind_line text) × (length p.1.now < length text)
