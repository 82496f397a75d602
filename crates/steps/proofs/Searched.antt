-- Where the run lies that holds a column.
use Rattle.std.proofs.Common.{◌≡◌, ℕ, zero, suc, ◌+◌, ◌-◌, ◌<◌, ◌≤◌, true, false, leb, List, length, drop, Some, None, Option, ap, ◌∙◌, inl, inr, add-one, arith}
use Rattle.std.specs.Option.{MatchOption, unwrap_or}
use Rattle.std.specs.List.{AllWithin, HoldsAt}
use Rattle.std.specs.List.Sorted.{IsNonDecreasingBy, IsPartitionPoint}
use Rattle.std.proofs.lemmas.Bool.{leb-true, leb-false, cases_lt, cases_eq}
use Rattle.std.proofs.lemmas.List.{get_or-drop, length-drop}
use Rattle.std.proofs.lemmas.List.Sorted.{IsNonDecreasingBy-from_default}
use Rattle.skyline.specs.declared.spans.Run.{Run}
use Rattle.steps.specs.declared.steps.Steps.{Steps}
use Rattle.steps.specs.Order.{in_order, run_at, Holds, Reaches}
use Rattle.steps.specs.Meaning.{runs_of}
use Rattle.steps.proofs.Edges.{reaches}

abbrev no_run : Run
no_run = record { start = 0; end = 0; top = 0 }

module _ (xs : List Run) (c : ℕ) (r : Reaches xs c) where
  ends_rise : (i j : ℕ) → i ≤ j → j < length xs → (run_at xs i).end ≤ (run_at xs j).end
  ends_rise i zero l u = let same : i ≡ 0 = omega arith in omega (arith, ap (λ k. (run_at xs k).end) same)
  ends_rise i (suc j) l u = elim (cases_eq i (suc j)) [
    | inl same ↦ omega (arith, ap (λ k. (run_at xs k).end) same)
    | inr other ↦
        let next : j + 1 ≡ suc j = add-one j in
        let rest = ends_rise i j (omega arith) (omega arith) in
        omega (arith, rest, r.joined j (omega arith), r.columns (suc j) u, ap (λ k. (run_at xs k).start) next)
  ]

  pub ends_in_order : IsNonDecreasingBy (λ (x : Run). x.end) xs
  ends_in_order = IsNonDecreasingBy-from_default (λ x. x.end) xs _ ends_rise

  -- a run that ends behind the column holds it, if it is the first or the one before does not
  pub first_behind : (i : ℕ) → i < length xs → c < (run_at xs i).end → (0 < i → (run_at xs (i - 1)).end ≤ c) → Holds xs i c
  first_behind i within behind before = record {
    within = within;
    from = elim (cases_lt 0 i) [
      | inl more ↦
          let next : (i - 1) + 1 ≡ i = omega arith in
          omega (arith, r.joined (i - 1) (omega arith), before more, ap (λ k. (run_at xs k).start) next)
      | inr none ↦ let first : i ≡ 0 = omega arith in omega (arith, r.from, ap (λ k. (run_at xs k).start) first)
    ];
    to = behind;
  }

  pub point_holds : (i : ℕ) → IsPartitionPoint (λ (x : Run). leb x.end c ≡ true) (λ x. leb x.end c ≡ false) xs i → i ≤ length xs → Holds xs i c
  point_holds i point bound =
      let within : i < length xs
      = elim (cases_lt i (length xs)) [
        | inl l ↦ l
        | inr l ↦
            let last = leb-true _ _ (point.0 (length xs - 1) no_run (omega arith) (omega (arith, r.some))) in
            absurd (omega (arith, r.to, last))
      ] in
      first_behind i within (leb-false _ _ (point.1 i no_run (omega arith) within)) (λ some. leb-true _ _ (point.0 (i - 1) no_run (omega arith) (omega arith)))

-- the first run from place first on that ends at b or behind holds the last column before b
pub walk_holds : (xs : List Run) (first b : ℕ) (r : Option ℕ) → first < length xs → (run_at xs first).start < b → Reaches xs (b - 1)
    → MatchOption r (AllWithin (λ (x : Run). x.end < b) (drop first xs) 0 (length (drop first xs)))
    (λ i. (i < length (drop first xs)) × HoldsAt (λ x. b ≤ x.end) (drop first xs) i × AllWithin (λ x. x.end < b) (drop first xs) 0 i)
    → Holds xs (first + unwrap_or r 0) (b - 1)
walk_holds xs first b (Some i) within starts r found =
    let size = length-drop first xs in
    let here = ap (λ x. x.end) (get_or-drop first xs i no_run) in
    let end = found.1 no_run in
    elim (cases_lt 0 i) [
      | inl some ↦
          let before = found.2 (i - 1) no_run (omega arith) (omega arith) in
          let there = ap (λ x. x.end) (get_or-drop first xs (i - 1) no_run) in
          let place : first + (i - 1) ≡ (first + i) - 1 = omega arith in
          let same = ap (λ k. (run_at xs k).end) place in
          first_behind xs (b - 1) r (first + i) (omega (arith, found.0)) (omega arith) (λ l. omega arith)
      | inr none ↦
          let place : first + i ≡ first = omega arith in
          let same = ap (λ k. (run_at xs k).start) place in
          record { within = omega (arith, found.0); from = omega arith; to = omega arith }
    ]
walk_holds xs first b None within starts r found =
    let size = length-drop first xs in
    let place : first + (length xs - 1 - first) ≡ length xs - 1 = omega arith in
    let same = ap (λ k. (run_at xs k).end) place in
    let here = ap (λ x. x.end) (get_or-drop first xs (length xs - 1 - first) no_run) in
    let end = found (length xs - 1 - first) no_run (omega arith) (omega arith) in
    absurd (omega (arith, r.to))

-- the runs of a skyline reach every column
pub searched : (s : Steps) (xs : List Run) (c : ℕ) → xs ≡ runs_of s → c < s.columns → Reaches xs c
searched s xs c same l = reaches 0 s.columns c xs (ap (λ zs. in_order 0 zs s.columns) same ∙ s.ordered) (omega arith) l
