-- The highest top over a span, record by record: over the whole span it is the largest over its columns.
use Rattle.std.proofs.Common.{◌≡◌, ℕ, ◌+◌, ◌<◌, ◌≤◌, min, max, List, [], ◌∷◌, ◌++◌, reverse, refl, ap, ◌∙◌, inl, inr, arith}
use Rattle.std.specs.List.{fold}
use Rattle.std.proofs.lemmas.Bool.{cases_lt}
use Rattle.std.proofs.lemmas.Bool.Decides.{nat_tests}
use Rattle.std.proofs.lemmas.Grind.{reverse_onto}
use Rattle.skyline.specs.Spans.{Extent, part, highest_top}

max_turn : (a b c : ℕ) → max a (max b c) ≡ max b (max a c)
max_turn a b c = omega arith

module _ {X : Type 0} (e : X → Extent) where
  pub top_push : (xs : List X) (x : X) (a b : ℕ) → highest_top e (xs ++ x ∷ []) a b ≡ max (part (e x) a b) (highest_top e xs a b)
  top_push [] x a b = refl
  top_push (y ∷ ys) x a b = ap (max (part (e y) a b)) (top_push ys x a b) ∙ max_turn (part (e y) a b) (part (e x) a b) (highest_top e ys a b)

  pub top_reverse : (xs : List X) (a b : ℕ) → highest_top e (reverse xs) a b ≡ highest_top e xs a b
  top_reverse [] a b = refl
  top_reverse (x ∷ xs) a b =
      ap (λ zs. highest_top e zs a b) (reverse_onto xs x []) ∙ top_push (reverse xs) x a b ∙ ap (max (part (e x) a b)) (top_reverse xs a b)

  top_folds : (xs : List X) (a b n : ℕ) → fold (λ m x. max (part (e x) a b) m) n xs ≡ max n (highest_top e xs a b)
  top_folds [] a b n = omega arith
  top_folds (x ∷ xs) a b n = let rest = top_folds xs a b (max (part (e x) a b) n) in omega arith

  pub top_fold : (xs : List X) (a b : ℕ) → fold (λ m x. max (part (e x) a b) m) 0 xs ≡ highest_top e xs a b
  top_fold xs a b = let rest = top_folds xs a b 0 in omega arith

  part_inside : (x : Extent) (a b c : ℕ) → a ≤ c → c < b → part x c (c + 1) ≤ part x a b
  part_inside x a b c l u = grind (arith, nat_tests)

  part_meets : (x : Extent) (a b : ℕ) → a < b → (c : ℕ) × (a ≤ c) × (c < b) × (part x c (c + 1) ≡ part x a b)
  part_meets x a b l = elim (cases_lt (max x.start a) (min x.end b)) [
    | inl h ↦ (max x.start a, omega arith, omega arith, grind (arith, nat_tests))
    | inr h ↦ (a, omega arith, l, grind (arith, nat_tests))
  ]

  pub top_above : (xs : List X) (a b c : ℕ) → a ≤ c → c < b → highest_top e xs c (c + 1) ≤ highest_top e xs a b
  top_above [] a b c l u = omega arith
  top_above (x ∷ xs) a b c l u = let h = part_inside (e x) a b c l u in let t = top_above xs a b c l u in omega arith

  pub top_met : (xs : List X) (a b : ℕ) → a < b → (c : ℕ) × (a ≤ c) × (c < b) × (highest_top e xs c (c + 1) ≡ highest_top e xs a b)
  top_met [] a b l = (a, omega arith, l, refl)
  top_met (x ∷ xs) a b l = elim (cases_lt (part (e x) a b) (highest_top e xs a b)) [
    | inl h ↦ let m = top_met xs a b l in
        let p = part_inside (e x) a b m.0 m.1 m.2 in
        (m.0, m.1, m.2, omega arith)
    | inr h ↦ let m = part_meets (e x) a b l in
        let p = top_above xs a b m.0 m.1 m.2 in
        (m.0, m.1, m.2, omega arith)
  ]
