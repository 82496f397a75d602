-- The words of a line, and what a word says.
use Rattle.std.specs.Prelude.{◌≡◌, ℕ, Bool, false, cond, not, ◌||◌, List, [], ◌∷◌, Some, None, codes, Option, ◌==◌}
use Rattle.std.specs.Borrow.{Bor}
use Rattle.std.specs.List.{prefix_len}
use Rattle.std.specs.Str.{bytes_eq}
use Rattle.rules.specs.declared.edits.Side.{Side}
use Rattle.rules.specs.declared.edits.Side.TheVariants.{Left, Right}

-- a word by its bytes
abbrev pub Word : Type 0
Word = List ℕ

-- byte b in front of the first word
abbrev pub onto : ℕ → List Word → List Word
onto b [] = (b ∷ []) ∷ []
onto b (w ∷ ws) = (b ∷ w) ∷ ws

-- where some bytes are blanks and some are marks, words of their own: a byte of any other word
abbrev pub plain_by : (ℕ → Bool) → (ℕ → Bool) → ℕ → Bool
plain_by blanks marks b = not (blanks b || marks b)

-- byte b of a word joins the word that goes on straight behind it, or is a word alone
abbrev pub joins_by : (ℕ → Bool) → (ℕ → Bool) → ℕ → List ℕ → List Word → List Word
joins_by blanks marks b [] ws = (b ∷ []) ∷ ws
joins_by blanks marks b (c ∷ cs) ws = cond (plain_by blanks marks c) (onto b ws) ((b ∷ []) ∷ ws)

-- the words of a line, parted by blanks and marks
abbrev pub words_by : (ℕ → Bool) → (ℕ → Bool) → List ℕ → List Word
words_by blanks marks [] = []
words_by blanks marks (b ∷ bs) =
    cond (blanks b) (words_by blanks marks bs)
    (cond (marks b) ((b ∷ []) ∷ words_by blanks marks bs) (joins_by blanks marks b bs (words_by blanks marks bs)))

-- how many blanks a line begins with
abbrev pub indent_by : (ℕ → Bool) → List ℕ → ℕ
indent_by blanks bs = prefix_len blanks bs

-- what the reader of a first word answers: the word and what is behind it, or none in a line of blanks
abbrev pub FirstWordBy : (ℕ → Bool) → (ℕ → Bool) → List ℕ → Option (Bor (List ℕ) × Bor (List ℕ)) → Type 0
FirstWordBy blanks marks line None = words_by blanks marks line ≡ []
FirstWordBy blanks marks line (Some p) = words_by blanks marks line ≡ p.0.now ∷ words_by blanks marks p.1.now

-- a space, a tab or a CR
abbrev pub blank : ℕ → Bool
blank b = b == 32 || (b == 9 || b == 13)

-- no byte is a word of its own
abbrev pub mark : ℕ → Bool
mark b = false

-- the words of a line, parted by blanks
unfoldable pub words : List ℕ → List Word
words line = words_by blank mark line

-- any one byte
abbrev pub byte_of : Word → Option ℕ
byte_of [] = None
byte_of (b ∷ []) = Some b
byte_of (b ∷ c ∷ bs) = None

-- left or right
abbrev pub side_of : Word → Option Side
side_of w = cond (bytes_eq w (codes "left")) (Some Left) (cond (bytes_eq w (codes "right")) (Some Right) None)

-- what a word says, if it says something, with the words behind it
abbrev pub with_rest : {A : Type 0} → List Word → Option A → Option (A × List Word)
with_rest ws None = None
with_rest ws (Some a) = Some (a, ws)

-- what the first word says, with the words behind it
abbrev pub first : {A : Type 0} → (Word → Option A) → List Word → Option (A × List Word)
first says [] = None
first says (w ∷ ws) = with_rest ws (says w)

-- what the reader of a first argument answers: the argument, and the line behind it
abbrev pub Taken : {A : Type 0} → (Word → Option A) → List Word → Option (A × Bor (List ℕ)) → Type 0
Taken says ws None = first says ws ≡ None
Taken says ws (Some p) = first says ws ≡ Some (p.0, words p.1.now)
