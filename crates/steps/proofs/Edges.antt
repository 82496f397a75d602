-- Runs in order: where each begins and ends, and the parts before and behind a place.
use Rattle.std.proofs.Common.{◌≡◌, ℕ, zero, suc, ◌+◌, ◌-◌, ◌<◌, ◌≤◌, true, List, [], ◌∷◌, ◌++◌, length, take, drop, sym, refl, ap, ◌∙◌, add-one, arith}
use Rattle.std.proofs.lemmas.Bool.{and_parts, and_from, eqb-true, eq-eqb, ltb-true, lt-ltb}
use Rattle.skyline.specs.declared.spans.Run.{Run}
use Rattle.steps.specs.Order.{in_order, run_at, Reaches}

-- what the order says of no runs, and of a first run
pub none_ends : (s e : ℕ) → in_order s [] e ≡ true → s ≡ e
unfolding in_order
none_ends s e o = eqb-true s e o

pub none_ordered : (s : ℕ) → in_order s [] s ≡ true
unfolding in_order
none_ordered s = eq-eqb s s refl

pub first_run : (s e : ℕ) (x : Run) (xs : List Run) → in_order s (x ∷ xs) e ≡ true → (x.start ≡ s) × (s < x.end) × (in_order x.end xs e ≡ true)
unfolding in_order
first_run s e x xs o =
    let both = and_parts _ _ o in
    let here = and_parts _ _ both.0 in
    (eqb-true x.start s here.0, ltb-true s x.end here.1, both.1)

pub one_more : (s e : ℕ) (x : Run) (xs : List Run) → x.start ≡ s → s < x.end → in_order x.end xs e ≡ true → in_order s (x ∷ xs) e ≡ true
unfolding in_order
one_more s e x xs starts some o = and_from _ _ (and_from _ _ (eq-eqb x.start s starts) (lt-ltb s x.end some)) o

-- runs in order end where they begin, or right of it
pub forward : (s e : ℕ) (xs : List Run) → in_order s xs e ≡ true → s ≤ e
forward s e [] o = let same = none_ends s e o in omega arith
forward s e (x ∷ xs) o =
    let f = first_run s e x xs o in
    let rest = forward x.end e xs f.2 in
    omega arith

-- runs in order that go on where others end
pub append_ordered : (s m e : ℕ) (xs ys : List Run) → in_order s xs m ≡ true → in_order m ys e ≡ true → in_order s (xs ++ ys) e ≡ true
append_ordered s m e [] ys o p = ap (λ n. in_order n ys e) (none_ends s m o) ∙ p
append_ordered s m e (x ∷ xs) ys o p =
    let f = first_run s m x xs o in
    one_more s e x (xs ++ ys) f.0 f.1 (append_ordered x.end m e xs ys f.2 p)

-- where the run at place i begins, of runs that begin at s
pub edge : ℕ → List Run → ℕ → ℕ
edge s [] i = s
edge s (x ∷ xs) zero = s
edge s (x ∷ xs) (suc i) = edge x.end xs i

edge_first : (s : ℕ) (xs : List Run) → edge s xs 0 ≡ s
unfolding edge
edge_first s [] = refl
edge_first s (x ∷ xs) = refl

pub edge_start : (s e i : ℕ) (xs : List Run) → in_order s xs e ≡ true → i < length xs → (run_at xs i).start ≡ edge s xs i
unfolding edge
edge_start s e i [] o l = absurd (omega arith)
edge_start s e zero (x ∷ xs) o l = (first_run s e x xs o).0
edge_start s e (suc i) (x ∷ xs) o l = edge_start x.end e i xs (first_run s e x xs o).2 (omega arith)

pub edge_end : (s i : ℕ) (xs : List Run) → i < length xs → (run_at xs i).end ≡ edge s xs (suc i)
unfolding edge
edge_end s i [] l = absurd (omega arith)
edge_end s zero (x ∷ xs) l = sym (edge_first x.end xs)
edge_end s (suc i) (x ∷ xs) l = edge_end x.end i xs (omega arith)

edge_last : (s e : ℕ) (xs : List Run) → in_order s xs e ≡ true → edge s xs (length xs) ≡ e
unfolding edge
edge_last s e [] o = none_ends s e o
edge_last s e (x ∷ xs) o = edge_last x.end e xs (first_run s e x xs o).2

-- each run has a column
some_columns : (s e i : ℕ) (xs : List Run) → in_order s xs e ≡ true → i < length xs → (run_at xs i).start < (run_at xs i).end
some_columns s e i [] o l = absurd (omega arith)
some_columns s e zero (x ∷ xs) o l = let f = first_run s e x xs o in omega arith
some_columns s e (suc i) (x ∷ xs) o l = some_columns x.end e i xs (first_run s e x xs o).2 (omega arith)

-- the runs before place i end where it begins, and the others go on from there
pub cut : (s e i : ℕ) (xs : List Run) → in_order s xs e ≡ true
    → (in_order s (take i xs) (edge s xs i) ≡ true) × (in_order (edge s xs i) (drop i xs) e ≡ true)
unfolding edge
cut s e zero [] o = (none_ordered s, o)
cut s e (suc i) [] o = (none_ordered s, o)
cut s e zero (x ∷ xs) o = (none_ordered s, o)
cut s e (suc i) (x ∷ xs) o =
    let f = first_run s e x xs o in
    let rest = cut x.end e i xs f.2 in
    (one_more s _ x (take i xs) f.0 f.1 rest.0, rest.1)

-- no column is without a run
pub some_runs : (s e : ℕ) (xs : List Run) → in_order s xs e ≡ true → s < e → 0 < length xs
some_runs s e [] o l = let same = none_ends s e o in absurd (omega arith)
some_runs s e (x ∷ xs) o l = omega arith

pub reaches : (s e c : ℕ) (xs : List Run) → in_order s xs e ≡ true → s ≤ c → c < e → Reaches xs c
reaches s e c xs o l u =
    let some = some_runs s e xs o (omega arith) in
    let start = edge_start s e 0 xs o some ∙ edge_first s xs in
    let end = edge_end s (length xs - 1) xs (omega arith) in
    let last : suc (length xs - 1) ≡ length xs = omega arith in
    let total = ap (edge s xs) last ∙ edge_last s e xs o in
    record {
      some = some;
      columns = λ i within. some_columns s e i xs o within;
      joined = λ i within. edge_start s e (i + 1) xs o within ∙ rw (add-one i) (sym (edge_end s i xs (omega arith)));
      from = omega arith;
      to = omega arith;
    }
