-- The lines of a script, one by one.
use Rattle.std.specs.Prelude.{◌≡◌, ℕ, ◌+◌, ◌<◌, ◌^◌, min, ◌-◌, List, [], length, Some, None, Option}
use Rattle.std.specs.Borrow.{Bor}
use Rattle.words.specs.Lines.{first_line, behind_line}

-- Of an empty rest there is no line, and it stays. Of any other the first line is given, what is behind it is left, which is shorter, and
-- one more line is counted.
abbrev pub Stepped : List ℕ → ℕ → Option (Bor (List ℕ)) → List ℕ → ℕ → Type 0
Stepped rest number None left counted = (rest ≡ []) × (left ≡ []) × (counted ≡ number)
Stepped rest number (Some line) left counted =
    (line.now ≡ first_line rest) × (left ≡ behind_line rest) × (length left < length rest) × (counted ≡ min (number + 1) (2 ^ 64 - 1))
