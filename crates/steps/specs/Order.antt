-- Runs of equal height in order, and how a raised span is put among them.
use Rattle.std.specs.Prelude.{◌≡◌, ℕ, ◌+◌, ◌-◌, ◌<◌, ◌≤◌, Bool, cond, ◌&&◌, List, [], ◌∷◌, ◌++◌, length, take, drop, ◌==◌, nat_lt, slice_index_or}
use Rattle.skyline.specs.declared.spans.Run.{Run}

-- whether the runs go from s to e: each has a column, the first starts at s, each ends where the next starts, the last ends at e
unfoldable pub in_order : ℕ → List Run → ℕ → Bool
in_order s [] e = s == e
in_order s (x ∷ xs) e = (x.start == s && nat_lt s x.end) && in_order x.end xs e

-- the height of column c: the top of the first run that ends behind it, 0 if none does
unfoldable pub height_at : List Run → ℕ → ℕ
height_at [] c = 0
height_at (x ∷ xs) c = cond (nat_lt c x.end) x.top (height_at xs c)

-- the run at place i
abbrev pub run_at : List Run → ℕ → Run
run_at xs i = slice_index_or xs i (record { start = 0; end = 0; top = 0 })

-- the run at place i holds column c
pub record Holds (xs : List Run) (i c : ℕ) : Type 0 where
  pub within : i < length xs
  pub from : (run_at xs i).start ≤ c
  pub to : c < (run_at xs i).end

-- the span from a to b meets the runs from place first to place last: they hold its first and its last column
pub record Over (xs : List Run) (first last a b : ℕ) : Type 0 where
  pub forward : first ≤ last
  pub left : Holds xs first a
  pub right : Holds xs last (b - 1)

-- there are runs, each has a column and starts where the one before ends, and column c lies between the start of the first and the end of the last
pub record Reaches (xs : List Run) (c : ℕ) : Type 0 where
  pub some : 0 < length xs
  pub columns : (i : ℕ) → i < length xs → (run_at xs i).start < (run_at xs i).end
  pub joined : (i : ℕ) → i + 1 < length xs → (run_at xs (i + 1)).start ≡ (run_at xs i).end
  pub from : (run_at xs 0).start ≤ c
  pub to : c < (run_at xs (length xs - 1)).end

-- what is left of a run x before the raised one: nothing, or one run
abbrev pub rest_before : Run → Run → List Run
rest_before x raised = cond (nat_lt x.start raised.start) (record { start = x.start; end = raised.start; top = x.top } ∷ []) []

-- what is left of a run x behind the raised one: nothing, or one run
abbrev pub rest_behind : Run → Run → List Run
rest_behind x raised = cond (nat_lt raised.end x.end) (record { start = raised.end; end = x.end; top = x.top } ∷ []) []

-- the runs that take the place of those from left to right, which hold the first and the last column of the raised one
abbrev pub pieces : Run → Run → Run → List Run
pieces left right raised = rest_before left raised ++ (raised ∷ rest_behind right raised)

-- the runs with the new ones in the place of those from first to past - 1
abbrev pub replaced : ℕ → ℕ → List Run → List Run → List Run
replaced first past new xs = take first xs ++ (new ++ drop past xs)
