-- The heights of runs in order, and the highest top over a column.
use Rattle.std.proofs.Common.{◌≡◌, ℕ, ◌+◌, ◌-◌, ◌<◌, ◌≤◌, true, ltb, List, [], ◌∷◌, ◌++◌, take, drop, sym, refl, ap, ◌∙◌, inl, inr, add-one, arith}
use Rattle.std.proofs.lemmas.List.{take-append-drop, get_or-take, length-take-le}
use Rattle.std.proofs.lemmas.Slice.{between_is}
use Rattle.std.proofs.lemmas.Bool.{lt-ltb, le-ltb, cond-true, cond-false, cases_lt}
use Rattle.std.proofs.lemmas.Bool.Decides.{nat_tests}
use Rattle.rules.specs.Skylines.{Largest}
use Rattle.skyline.specs.Spans.{part, run_extent, highest_top}
use Rattle.skyline.proofs.Tops.{top_above, top_met}
use Rattle.skyline.specs.declared.spans.Run.{Run}
use Rattle.steps.specs.declared.steps.Steps.{Steps}
use Rattle.steps.specs.Order.{in_order, height_at, run_at, Holds, Over}
use Rattle.steps.specs.Meaning.{runs_of, sky_of}
use Rattle.steps.proofs.Edges.{none_ends, first_run, forward, edge, edge_start, edge_end, cut}

pub height_here : (x : Run) (xs : List Run) (c : ℕ) → c < x.end → height_at (x ∷ xs) c ≡ x.top
unfolding height_at
height_here x xs c l = cond-true (ltb c x.end) x.top (height_at xs c) (lt-ltb c x.end l)

pub height_next : (x : Run) (xs : List Run) (c : ℕ) → x.end ≤ c → height_at (x ∷ xs) c ≡ height_at xs c
unfolding height_at
height_next x xs c l = cond-false (ltb c x.end) x.top (height_at xs c) (le-ltb c x.end l)

-- over their own columns the first runs tell the heights, and behind them the others
pub height_front : (s m c : ℕ) (xs ys : List Run) → in_order s xs m ≡ true → s ≤ c → c < m → height_at (xs ++ ys) c ≡ height_at xs c
height_front s m c [] ys o l h = let same = none_ends s m o in absurd (omega arith)
height_front s m c (x ∷ xs) ys o l h = elim (cases_lt c x.end) [
  | inl k ↦ height_here x (xs ++ ys) c k ∙ sym (height_here x xs c k)
  | inr k ↦
      height_next x (xs ++ ys) c k ∙ height_front x.end m c xs ys (first_run s m x xs o).2 k h ∙ sym (height_next x xs c k)
]

pub height_rest : (s m c : ℕ) (xs ys : List Run) → in_order s xs m ≡ true → m ≤ c → height_at (xs ++ ys) c ≡ height_at ys c
height_rest s m c [] ys o l = refl
height_rest s m c (x ∷ xs) ys o l =
    let f = first_run s m x xs o in
    let end = forward x.end m xs f.2 in
    height_next x (xs ++ ys) c (omega arith) ∙ height_rest x.end m c xs ys f.2 l

part_on : (x : Run) (c : ℕ) → x.start ≤ c → c < x.end → part (run_extent x) c (c + 1) ≡ x.top
part_on x c l u = grind (arith, nat_tests)

part_left : (x : Run) (c : ℕ) → c < x.start → part (run_extent x) c (c + 1) ≡ 0
part_left x c l = grind (arith, nat_tests)

part_right : (x : Run) (c : ℕ) → x.end ≤ c → part (run_extent x) c (c + 1) ≡ 0
part_right x c l = grind (arith, nat_tests)

-- runs that begin right of a column have no top over it
top_none : (s e c : ℕ) (xs : List Run) → in_order s xs e ≡ true → c < s → highest_top run_extent xs c (c + 1) ≡ 0
top_none s e c [] o l = refl
top_none s e c (x ∷ xs) o l =
    let f = first_run s e x xs o in
    let here = part_left x c (omega arith) in
    let rest = top_none x.end e c xs f.2 (omega arith) in
    omega arith

top_height : (s e c : ℕ) (xs : List Run) → in_order s xs e ≡ true → s ≤ c → highest_top run_extent xs c (c + 1) ≡ height_at xs c
unfolding height_at
top_height s e c [] o l = refl
top_height s e c (x ∷ xs) o l =
    let f = first_run s e x xs o in
    elim (cases_lt c x.end) [
      | inl k ↦
          let here = part_on x c (omega arith) k in
          let rest = top_none x.end e c xs f.2 k in
          let top : highest_top run_extent (x ∷ xs) c (c + 1) ≡ x.top = omega arith in
          top ∙ sym (height_here x xs c k)
      | inr k ↦
          let here = part_right x c k in
          let rest = top_height x.end e c xs f.2 k in
          let top : highest_top run_extent (x ∷ xs) c (c + 1) ≡ height_at xs c = omega arith in
          top ∙ sym (height_next x xs c k)
    ]

-- the runs from the one that holds a to the one that holds b - 1 tell the heights between
part_heights : (e first last a b : ℕ) (xs : List Run) → in_order 0 xs e ≡ true → first ≤ last → Holds xs first a → Holds xs last (b - 1)
    → (c : ℕ) → a ≤ c → c < b → highest_top run_extent (take ((last + 1) - first) (drop first xs)) c (c + 1) ≡ height_at xs c
part_heights e first last a b xs o rise p q c l u =
    let ys = take (last + 1) xs in
    let end : edge 0 xs (last + 1) ≡ (run_at xs last).end = rw (add-one last) (sym (edge_end 0 last xs q.within)) in
    let front : in_order 0 ys (edge 0 xs (last + 1)) ≡ true = (cut 0 e (last + 1) xs o).0 in
    let size = length-take-le (last + 1) xs (omega (arith, q.within)) in
    let same = ap (λ x. x.start) (get_or-take (last + 1) xs first (record { start = 0; end = 0; top = 0 }) (omega arith)) in
    let start = edge_start 0 _ first ys front (omega arith) in
    let halves = cut 0 _ first ys front in
    let whole : height_at xs c ≡ height_at ys c =
    ap (λ zs. height_at zs c) (sym (take-append-drop (last + 1) xs)) ∙ height_front 0 _ c ys (drop (last + 1) xs) front (omega arith) (omega (arith, q.to)) in
    let behind : height_at ys c ≡ height_at (drop first ys) c =
    ap (λ zs. height_at zs c) (sym (take-append-drop first ys)) ∙ height_rest 0 _ c (take first ys) (drop first ys) halves.0 (omega (arith, p.from)) in
    ap (λ zs. highest_top run_extent zs c (c + 1)) (between_is xs first (last + 1))
    ∙ top_height _ _ c (drop first ys) halves.1 (omega (arith, p.from)) ∙ sym behind ∙ sym whole

-- the highest top of the runs that a span meets is the largest height of its columns
pub met_largest : (s : Steps) (xs : List Run) (first last a b m : ℕ) → xs ≡ runs_of s → a < b → Over xs first last a b
    → m ≡ highest_top run_extent (take ((last + 1) - first) (drop first xs)) a b → Largest (sky_of s) a b m
met_largest s xs first last a b m same some over is =
    let part = take ((last + 1) - first) (drop first xs) in
    let ordered : in_order 0 xs s.columns ≡ true = ap (λ zs. in_order 0 zs s.columns) same ∙ s.ordered in
    let heights : (c : ℕ) → a ≤ c → c < b → highest_top run_extent part c (c + 1) ≡ height_at (runs_of s) c
    = λ c l u. part_heights s.columns first last a b xs ordered over.forward over.left over.right c l u ∙ ap (λ zs. height_at zs c) same in
    let met = top_met run_extent part a b some in
    record {
      bounds = λ c l u. omega (arith, heights c l u, top_above run_extent part a b c l u);
      met_at = met.0;
      from_a = met.1;
      to_b = met.2;
      is_met = sym (heights met.0 met.1 met.2) ∙ met.3 ∙ sym is;
    }
