-- The tests of the arguments of a skyline's calls.
use Rattle.std.specs.Prelude.{◌≡◌, ℕ, ◌<◌, ◌≤◌, ◌⊎◌, Ok, Err, Result}
use Rattle.rules.specs.declared.refusals.Refusal.{Refusal}
use Rattle.skyline.specs.declared.spans.Span.{Span}
use Rattle.rules.specs.declared.refusals.Refusal.TheVariants.{WrongSpan, RaisedTooHigh, BelowHighest, NoRaiseLeft}

-- the span from a to b has a column and ends with the last of n columns or before, or 11
abbrev pub SpanTested : ℕ → ℕ → ℕ → Result Span Refusal → Type 0
SpanTested a b n (Ok s) = (s.start ≡ a) × (s.end ≡ b) × (a < b) × (b ≤ n)
SpanTested a b n (Err e) = (e ≡ WrongSpan) × ((a < b) × (b ≤ n) → ⊥)

-- A raise to h over a span whose largest height is m, with so many raises left: it passes all three tests, or the first that it
-- fails refuses it, 12, 23 or 24.
abbrev pub RaiseTested : ℕ → ℕ → ℕ → Result (Unit {0}) Refusal → Type 0
RaiseTested m h left (Ok u) = (h ≤ 134217728) × (m ≤ h) × (0 < left)
RaiseTested m h left (Err e) =
    ((e ≡ RaisedTooHigh) × (134217728 < h))
    ⊎ ((e ≡ BelowHighest) × (h ≤ 134217728) × (h < m))
    ⊎ ((e ≡ NoRaiseLeft) × (h ≤ 134217728) × (m ≤ h) × (left ≡ 0))
