-- The words of a line.
use Rattle.std.specs.Prelude.{◌≡◌, ℕ, Bool, ◌||◌, List, [], ◌∷◌, Some, None, Option, ◌==◌}
use Rattle.std.specs.Borrow.{Bor}
use Rattle.words.specs.Words.{Word, plain_by, words_by, indent_by}

-- a space or a tab
abbrev pub blank : ℕ → Bool
blank b = b == 32 || b == 9

-- ( ) , : are words of their own
abbrev pub mark : ℕ → Bool
mark b = b == 40 || (b == 41 || (b == 44 || b == 58))

-- a byte of any other word
abbrev pub plain : ℕ → Bool
plain b = plain_by blank mark b

-- the words of a line
unfoldable pub words : List ℕ → List Word
words line = words_by blank mark line

-- how many blanks a line begins with
unfoldable pub indent : List ℕ → ℕ
indent line = indent_by blank line

-- what the reader of a first word answers: the word and what is behind it, or none in a line of blanks
abbrev pub FirstWord : List ℕ → Option (Bor (List ℕ) × Bor (List ℕ)) → Type 0
FirstWord line None = words line ≡ []
FirstWord line (Some p) = words line ≡ p.0.now ∷ words p.1.now
