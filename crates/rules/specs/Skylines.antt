-- What a skyline means, and what its calls answer.
use Rattle.std.specs.Prelude.{◌≡◌, ℕ, ◌+◌, ◌<◌, ◌≤◌, ◌⊎◌, Ok, Err, Result}
use Rattle.rules.specs.declared.refusals.Refusal.{Refusal}
use Rattle.rules.specs.declared.refusals.Refusal.TheVariants.{WrongSpan, RaisedTooHigh, BelowHighest, NoRaiseLeft}

-- C columns with a height for each, R raises when cleared, and r raises left. Column c is the strip from x = c to c + 1.
-- C is at most 67,108,864 and R at most 65,536. Heights of numbers from C on say nothing.
pub record Sky : Type 0 where
  pub columns : ℕ
  pub raises : ℕ
  pub left : ℕ
  pub height : ℕ → ℕ
  pub columns_bounded : columns ≤ 67108864
  pub raises_bounded : raises ≤ 65536

-- the span from a to b has a column, and ends with the last column or before
abbrev pub Within : Sky → ℕ → ℕ → Type 0
Within s a b = (a < b) × (b ≤ s.columns)

-- no column from a to b - 1 is higher than h
abbrev pub NoneAbove : Sky → ℕ → ℕ → ℕ → Type 0
NoneAbove s a b h = (c : ℕ) → a ≤ c → c < b → s.height c ≤ h

-- h is the largest height of columns a to b - 1
pub record Largest (s : Sky) (a b h : ℕ) : Type 0 where
  pub bounds : NoneAbove s a b h
  pub met_at : ℕ
  pub from_a : a ≤ met_at
  pub to_b : met_at < b
  pub is_met : s.height met_at ≡ h

-- t is s
pub record Unaltered (s t : Sky) : Type 0 where
  pub columns : t.columns ≡ s.columns
  pub raises : t.raises ≡ s.raises
  pub left : t.left ≡ s.left
  pub height : (c : ℕ) → c < s.columns → t.height c ≡ s.height c

-- t is s cleared: every height is 0, and r is R
pub record Cleared (s t : Sky) : Type 0 where
  pub columns : t.columns ≡ s.columns
  pub raises : t.raises ≡ s.raises
  pub left : t.left ≡ s.raises
  pub height : (c : ℕ) → c < s.columns → t.height c ≡ 0

-- t is s raised from a to b to h: those columns have height h, the others theirs, and r is one less
pub record Raised (s t : Sky) (a b h : ℕ) : Type 0 where
  pub columns : t.columns ≡ s.columns
  pub raises : t.raises ≡ s.raises
  pub left : t.left + 1 ≡ s.left
  pub inside : (c : ℕ) → a ≤ c → c < b → t.height c ≡ h
  pub before : (c : ℕ) → c < a → t.height c ≡ s.height c
  pub behind : (c : ℕ) → b ≤ c → c < s.columns → t.height c ≡ s.height c

-- a skyline just made, of C columns and R raises
pub record Fresh (s : Sky) (C R : ℕ) : Type 0 where
  pub columns : s.columns ≡ C
  pub raises : s.raises ≡ R
  pub left : s.left ≡ R
  pub height : (c : ℕ) → c < C → s.height c ≡ 0

-- Highest, from a to b: the largest height of columns a to b - 1, or 11.
abbrev pub Highest : Sky → ℕ → ℕ → Result ℕ Refusal → Type 0
Highest s a b (Ok h) = Within s a b × Largest s a b h
Highest s a b (Err e) = (e ≡ WrongSpan) × (Within s a b → ⊥)

-- the first test of a raise that refuses: 11, 12, 23, 24
abbrev pub RaiseRefused : Sky → ℕ → ℕ → ℕ → Refusal → Type 0
RaiseRefused s a b h e =
    ((e ≡ WrongSpan) × (Within s a b → ⊥))
    ⊎ ((e ≡ RaisedTooHigh) × Within s a b × (134217728 < h))
    ⊎ ((e ≡ BelowHighest) × Within s a b × (h ≤ 134217728) × (NoneAbove s a b h → ⊥))
    ⊎ ((e ≡ NoRaiseLeft) × Within s a b × (h ≤ 134217728) × NoneAbove s a b h × (s.left ≡ 0))

-- Raise, from a to b to h, from s to t.
abbrev pub Raise : Sky → Sky → ℕ → ℕ → ℕ → Result (Unit {0}) Refusal → Type 0
Raise s t a b h (Ok u) = Within s a b × (h ≤ 134217728) × NoneAbove s a b h × (0 < s.left) × Raised s t a b h
Raise s t a b h (Err e) = Unaltered s t × RaiseRefused s a b h e
