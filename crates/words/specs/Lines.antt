-- The lines of a text.
use Rattle.std.specs.Prelude.{◌≡◌, ℕ, ◌<◌, cond, List, [], ◌∷◌, length, Some, None, Option, ◌==◌}
use Rattle.std.specs.Borrow.{Bor}

-- what stands before the first LF, or the whole text where there is none
unfoldable pub first_line : List ℕ → List ℕ
first_line [] = []
first_line (b ∷ bs) = cond (b == 10) [] (b ∷ first_line bs)

-- what stands behind the first LF, nothing where there is none
unfoldable pub behind_line : List ℕ → List ℕ
behind_line [] = []
behind_line (b ∷ bs) = cond (b == 10) bs (behind_line bs)

-- An empty text has no line. Of any other the first line and what is behind it, which is shorter than the text.
abbrev pub FirstLine : List ℕ → Option (Bor (List ℕ) × Bor (List ℕ)) → Type 0
FirstLine text None = text ≡ []
FirstLine text (Some p) = (p.0.now ≡ first_line text) × (p.1.now ≡ behind_line text) × (length p.1.now < length text)
