-- What runs in order mean as a skyline.
use Rattle.std.specs.Prelude.{◌≡◌, ℕ, ◌-◌, ◌/◌, ◌<◌, ◌≤◌, min, cond, List, ◌==◌}
use Rattle.std.proofs.Math.Nat.{min-le_right}
use Rattle.rules.specs.Skylines.{Sky}
use Rattle.skyline.specs.declared.spans.Run.{Run}
use Rattle.steps.specs.declared.steps.Steps.{Steps}
use Rattle.steps.specs.Order.{height_at}
use Rattle.steps.specs.Used.{in_use, room}

-- C over so many records, of so many columns asked for: none without memory
abbrev pub columns_over : ℕ → ℕ → ℕ
columns_over records asked = cond (records == 0) 0 (min asked 67108864)

-- R over so many records: one run to begin with, and two more for each raise
abbrev pub raises_over : ℕ → ℕ
raises_over records = min ((records - 1) / 2) 65536

-- the runs in use
abbrev pub runs_of : Steps → List Run
runs_of s = in_use s.runs

-- the skyline: the heights are the tops of the runs in use
abbrev pub sky_of : Steps → Sky
sky_of s = record {
  columns = s.columns;
  raises = raises_over (room s.runs);
  left = s.left;
  height = height_at (runs_of s);
  columns_bounded = s.narrow;
  raises_bounded = min-le_right ((room s.runs - 1) / 2) 65536;
}

-- heights before and after a run is put in: its columns have its top, the others their height
pub record Put (was is : ℕ → ℕ) (raised : Run) : Type 0 where
  pub inside : (c : ℕ) → raised.start ≤ c → c < raised.end → is c ≡ raised.top
  pub before : (c : ℕ) → c < raised.start → is c ≡ was c
  pub behind : (c : ℕ) → raised.end ≤ c → is c ≡ was c
