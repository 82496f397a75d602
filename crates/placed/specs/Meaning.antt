-- What raised runs of columns mean as a skyline.
use Rattle.std.specs.Prelude.{◌≡◌, ℕ, ◌+◌, ◌-◌, ◌<◌, ◌≤◌, min, true, false, cond, List, ◌∷◌, length, drop, Ok, Err, Result, ◌==◌, slice_set}
use Rattle.std.proofs.Math.Nat.{min-le_right}
use Rattle.std.proofs.Common.{arith}
use Rattle.std.specs.Borrow.{GName}
use Rattle.rules.specs.declared.refusals.Refusal.{Refusal}
use Rattle.rules.specs.Skylines.{Sky}
use Rattle.skyline.specs.declared.spans.Run.{Run}
use Rattle.skyline.specs.Spans.{run_extent, highest_top}
use Rattle.stack.specs.Stacked.{held, memory, room, loan}
use Rattle.placed.specs.declared.Placed.{Placed}

-- all of the lent records
abbrev pub lent : Placed → List Run
lent s = memory s.raised

-- which loan the records are: two with one name are the same memory of the caller's
abbrev pub loan_of : Placed → GName
loan_of s = loan s.raised

-- how many records are used: the first, as a raise uses the next
abbrev pub used : Placed → ℕ
used s = length (held s.raised)

-- C over n records of a skyline told a width: the width, at most 67,108,864, or 0 without records
abbrev pub columns_over : ℕ → ℕ → ℕ
columns_over n width = cond (n == 0) 0 (min width 67108864)

-- a bound that every skyline keeps
pub columns_over_few : (n width : ℕ) → columns_over n width ≤ 67108864
columns_over_few n width =
    elim (n == 0) as (λ empty. cond empty 0 (min width 67108864) ≤ 67108864) [ true ↦ omega arith | false ↦ min-le_right width 67108864 ]

-- the runs raised so far as a skyline: a column's height is the highest top over it
abbrev pub placed_sky : Placed → Sky
placed_sky s = record {
  columns = columns_over (room s.raised) s.width;
  raises = min (room s.raised) 65536;
  left = min (room s.raised) 65536 - used s;
  height = λ c. highest_top run_extent (held s.raised) c (c + 1);
  columns_bounded = columns_over_few (room s.raised) s.width;
  raises_bounded = min-le_right (room s.raised) 65536;
}

-- t is s with x in one more record
pub record OneMore (s : Placed) (x : Run) (t : Placed) : Type 0 where
  pub records : lent t ≡ slice_set (lent s) (used s) x
  pub newest : held t.raised ≡ x ∷ held s.raised
  pub room : room t.raised ≡ room s.raised
  pub width : t.width ≡ s.width

-- ys is as long as xs, and has its records behind the last that a raise can take
pub record KeptBehind (xs ys : List Run) : Type 0 where
  pub size : length ys ≡ length xs
  pub records : drop 65536 ys ≡ drop 65536 xs

-- the lent records after a raise from a to b to h: its run is in the first record that was not used, the others are as they
-- were; a refused raise writes none
abbrev pub Written : Placed → Placed → ℕ → ℕ → ℕ → Result (Unit {0}) Refusal → Type 0
Written s t a b h (Ok u) = (used s < min (room s.raised) 65536) × (lent t ≡ slice_set (lent s) (used s) (record { start = a; end = b; top = h }))
Written s t a b h (Err e) = lent t ≡ lent s
