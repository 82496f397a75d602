-- A search from 0 up that stops at the first number that a test finds.
use Rattle.std.proofs.Common.{◌≡◌, ℕ, zero, suc, ◌+◌, ◌<◌, ◌≤◌, Bool, true, false, cond, List, [], ◌∷◌, length, get_or, Some, None, sym, refl, ap, ◌∙◌, subst, inl, inr, arith}
use Rattle.std.specs.List.{position, position_from}
use Rattle.std.proofs.lemmas.Iterator.Adapters.{position_from-zero}
use Rattle.std.proofs.lemmas.Bool.{cond-true, cond-false, cases_Bool, cases_eq}
use Rattle.rules.specs.Loads.{first}

-- where nothing is found, the test fails at every number
pub none_found : (f : ℕ → Bool) (n : ℕ) → first f 0 n ≡ None → (k : ℕ) → k < n → f k ≡ false
unfolding first
none_found f n e k h = from 0 n k e (omega arith) (omega arith)
  where
    from : (i c m : ℕ) → first f i c ≡ None → i ≤ m → m < i + c → f m ≡ false
    from i zero m q lo hi = absurd (omega arith)
    from i (suc c) m q lo hi = elim (cases_Bool (f i)) [
      | inl is ↦ cc (sym (cond-true (f i) (Some i) (first f (i + 1) c) is) ∙ q)
      | inr not ↦ elim (cases_eq i m) [
        | inl here ↦ subst (λ (x : ℕ). f x ≡ false) here not
        | inr other ↦ from (i + 1) c m (sym (cond-false (f i) (Some i) (first f (i + 1) c) not) ∙ q) (omega arith) (omega arith)
      ]
    ]

-- where k is found, it is below n, the test holds there, and fails at every lower number
pub found_at : (f : ℕ → Bool) (n k : ℕ) → first f 0 n ≡ Some k → (k < n) × (f k ≡ true) × ((j : ℕ) → j < k → f j ≡ false)
unfolding first
found_at f n k e = let a = from 0 n e in (omega (arith, a.0), a.1, λ j h. a.2 j (omega arith) h)
  where
    from : (i c : ℕ) → first f i c ≡ Some k → (k < i + c) × (f k ≡ true) × ((j : ℕ) → i ≤ j → j < k → f j ≡ false)
    from i zero q = cc
    from i (suc c) q = elim (cases_Bool (f i)) [
      | inl is ↦
          let here : i ≡ k = cc (sym (cond-true (f i) (Some i) (first f (i + 1) c) is) ∙ q) in
          (omega arith, subst (λ (x : ℕ). f x ≡ true) here is, λ j lo hi. absurd (omega arith))
      | inr not ↦
          let a = from (i + 1) c (sym (cond-false (f i) (Some i) (first f (i + 1) c) not) ∙ q) in (
            omega (arith, a.0),
            a.1,
            λ j lo hi. elim (cases_eq i j) [
              | inl here ↦ subst (λ (x : ℕ). f x ≡ false) here not
              | inr other ↦ a.2 j (omega arith) hi
            ],
          )
    ]

pub found_below : (f : ℕ → Bool) (n k : ℕ) → first f 0 n ≡ Some k → k < n
found_below f n k e = (found_at f n k e).0

-- the search of a list from its front on is the search of its places
module _ {A : Type 0} (f : ℕ → Bool) (p : A → Bool) (d : A) where
  from_place : (xs : List A) (i : ℕ) → ((k : ℕ) → k < length xs → p (get_or xs k d) ≡ f (i + k)) → position_from p i xs ≡ first f i (length xs)
  unfolding first
  from_place [] i h = refl
  from_place (x ∷ xs) i h =
      let here : i + 0 ≡ i = omega arith in
      let after : (k : ℕ) → i + suc k ≡ (i + 1) + k = λ k. omega arith in
      ap (λ b. cond b (Some i) (position_from p (i + 1) xs)) (h 0 (omega arith) ∙ ap f here)
      ∙ ap (cond (f i) (Some i)) (from_place xs (i + 1) (λ k l. h (suc k) (omega arith) ∙ ap f (after k)))

  pub first_place : (xs : List A) → ((k : ℕ) → k < length xs → p (get_or xs k d) ≡ f k) → position p xs ≡ first f 0 (length xs)
  first_place xs h = position_from-zero p xs ∙ from_place xs 0 (λ k l. let e : 0 + k ≡ k = omega arith in h k l ∙ ap f (sym e))
