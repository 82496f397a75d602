-- One number a column: what it means as a skyline, and how the numbers are written.
use Rattle.std.specs.Prelude.{◌≡◌, ℕ, ◌<◌, ◌≤◌, min, true, false, cond, List, length, ◌==◌, slice_index}
use Rattle.std.proofs.Math.Nat.{min-le_right}
use Rattle.std.proofs.Common.{arith}
use Rattle.std.specs.Borrow.{GName}
use Rattle.rules.specs.Skylines.{Sky}
use Rattle.columns.specs.declared.Columns.{Columns}

-- all of the lent numbers
abbrev pub lent : Columns → List ℕ
lent s = s.heights.now

-- which loan the numbers are: two with one name are the same memory of the caller's
abbrev pub loan_of : Columns → GName
loan_of s = s.heights.ghost_name

-- R over memory of n numbers: 65,536, or 0 without memory
abbrev pub raises_over : ℕ → ℕ
raises_over n = cond (n == 0) 0 65536

-- a bound that every skyline keeps
pub raises_over_few : (n : ℕ) → raises_over n ≤ 65536
raises_over_few n = elim (n == 0) as (λ empty. cond empty 0 65536 ≤ 65536) [ true ↦ omega arith | false ↦ omega arith ]

-- the numbers as a skyline: a column for each, up to 67,108,864 of them
abbrev pub columns_sky : Columns → Sky
columns_sky s = record {
  columns = min (length (lent s)) 67108864;
  raises = raises_over (length (lent s));
  left = s.left;
  height = λ c. slice_index (lent s) c;
  columns_bounded = min-le_right (length (lent s)) 67108864;
  raises_bounded = raises_over_few (length (lent s));
}

-- ys is xs with h from a to b - 1
pub record Levelled (xs ys : List ℕ) (a b h : ℕ) : Type 0 where
  pub size : length ys ≡ length xs
  pub inside : (c : ℕ) → a ≤ c → c < b → slice_index ys c ≡ h
  pub before : (c : ℕ) → c < a → slice_index ys c ≡ slice_index xs c
  pub behind : (c : ℕ) → b ≤ c → slice_index ys c ≡ slice_index xs c

-- ys is as long as xs, and has its numbers behind the last that can be a column
pub record KeptBehind (xs ys : List ℕ) : Type 0 where
  pub size : length ys ≡ length xs
  pub numbers : (c : ℕ) → 67108864 ≤ c → slice_index ys c ≡ slice_index xs c
