-- One run of height 0 of all columns.
use Rattle.std.proofs.Common.{◌≡◌, ℕ, ◌<◌, min, true, List, [], ◌∷◌, ◌++◌, length, take, drop, refl, ap, ◌∙◌, inl, inr, arith}
use Rattle.std.proofs.lemmas.Bool.{cases_lt}
use Rattle.std.proofs.lemmas.List.{drop_all}
use Rattle.skyline.specs.declared.spans.Run.{Run}
use Rattle.steps.specs.Order.{in_order, height_at}
use Rattle.steps.proofs.Edges.{none_ordered, one_more}
use Rattle.steps.proofs.Heights.{height_here}

abbrev flat : ℕ → Run
flat n = record { start = 0; end = n; top = 0 }

pub record Flattened (xs : List Run) (n : ℕ) : Type 0 where
  pub ordered : in_order 0 xs n ≡ true
  pub size : length xs ≡ min n 1
  pub heights : (c : ℕ) → c < n → height_at xs c ≡ 0

-- the run, or none where there are no columns, in the place of all runs
pub flattened : (xs ys zs : List Run) (n count : ℕ) → count ≡ min n 1 → ys ≡ xs → zs ≡ take count (flat n ∷ []) ++ drop (length ys) xs → Flattened zs n
flattened xs ys zs n count few same are =
    let all = ap length same in
    let none : drop (length ys) xs ≡ [] = drop_all (length ys) xs (omega arith) in
    elim (cases_lt 0 n) [
      | inl some ↦
          let one : count ≡ 1 = omega arith in
          let whole : zs ≡ flat n ∷ [] = are ∙ ap (λ k. take k (flat n ∷ []) ++ drop (length ys) xs) one ∙ ap (λ ws. flat n ∷ ws) none in
          let long = ap length whole in
          record {
            ordered = ap (λ ws. in_order 0 ws n) whole ∙ one_more 0 n (flat n) [] refl some (none_ordered n);
            size = omega arith;
            heights = λ c l. ap (λ ws. height_at ws c) whole ∙ height_here (flat n) [] c l;
          }
      | inr some ↦
          let nothing : n ≡ 0 = omega arith in
          let no : count ≡ 0 = omega arith in
          let whole : zs ≡ [] = are ∙ ap (λ k. take k (flat n ∷ []) ++ drop (length ys) xs) no ∙ none in
          let long = ap length whole in
          record {
            ordered = ap (λ ws. in_order 0 ws n) whole ∙ ap (in_order 0 []) nothing ∙ none_ordered 0;
            size = omega arith;
            heights = λ c l. absurd (omega arith);
          }
    ]
