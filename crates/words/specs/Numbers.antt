-- Numbers by their decimal digits.
use Rattle.std.specs.Prelude.{ℕ, ◌+◌, ◌-◌, ◌*◌, cond, ◌&&◌, [], ◌∷◌, length, Some, None, Option, nat_le}
use Rattle.std.specs.Char.{is_ascii_digit}
use Rattle.words.specs.Words.{Word}

-- the number that the digits spell behind those of n; none where a byte is no digit
unfoldable pub spelt_after : ℕ → Word → Option ℕ
spelt_after n [] = Some n
spelt_after n (b ∷ bs) = cond (is_ascii_digit b) (spelt_after (n * 10 + (b - 48)) bs) None

-- the number that a word of 1 to 9 decimal digits spells
abbrev pub number_of : Word → Option ℕ
number_of w = cond (nat_le 1 (length w) && nat_le (length w) 9) (spelt_after 0 w) None

-- the number, if it is at most so large
abbrev pub at_most : ℕ → Option ℕ → Option ℕ
at_most most None = None
at_most most (Some n) = cond (nat_le n most) (Some n) None

-- the number that a word spells, if it is at most so large
abbrev pub number_up_to : ℕ → Word → Option ℕ
number_up_to most w = at_most most (number_of w)

-- a block, a child or the root: 0 to 65,535
abbrev pub block_of : Word → Option ℕ
block_of w = number_up_to 65535 w
