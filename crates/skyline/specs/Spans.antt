-- Records with a span and a top.
use Rattle.std.specs.Prelude.{ℕ, min, max, cond, List, [], ◌∷◌, nat_lt}
use Rattle.skyline.specs.declared.spans.Run.{Run}

-- the half-open span from start to end, and a top
pub record Extent : Type 0 where
  pub start : ℕ
  pub end : ℕ
  pub top : ℕ

-- the span of a run of columns, and its top
abbrev pub run_extent : Run → Extent
run_extent x = record { start = x.start; end = x.end; top = x.top }

-- the top of a record whose span meets that from a to b, else 0
abbrev pub part : Extent → ℕ → ℕ → ℕ
part e a b = cond (nat_lt (max e.start a) (min e.end b)) e.top 0

-- the largest top of the records whose span meets that from a to b, 0 if none does
abbrev pub highest_top : {X : Type 0} → (X → Extent) → List X → ℕ → ℕ → ℕ
highest_top e [] a b = 0
highest_top e (x ∷ xs) a b = max (part (e x) a b) (highest_top e xs a b)
