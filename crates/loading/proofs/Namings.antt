-- Counting how often links lead to a block.
use Rattle.std.proofs.Common.{◌≡◌, ℕ, zero, suc, ◌+◌, ◌<◌, ◌≤◌, cond, eqb, sym, refl, ap, inl, inr, add-one, arith}
use Rattle.std.proofs.lemmas.Bool.{cases_eq, eq-eqb, cond-true}
use Rattle.rules.specs.Links.{sum_below, leading}
use Rattle.rules.proofs.Counts.{flag_le}
use Rattle.rules.proofs.Spelling.{sum_le}
use Rattle.loading.specs.Linked.{Link}

pub leading_none : (f : ℕ → ℕ) (k : ℕ) → leading f 0 k ≡ 0
unfolding leading sum_below
leading_none f k = refl

pub leading_more : (f : ℕ → ℕ) (i k : ℕ) → leading f (i + 1) k ≡ cond (eqb (f i) k) 1 0 + leading f i k
unfolding leading sum_below
leading_more f i k = ap (λ (n : ℕ). leading f n k) (add-one i)

pub leading_le : (f : ℕ → ℕ) (n k : ℕ) → leading f n k ≤ n
unfolding leading
leading_le f n k = sum_le _ n (λ p. flag_le (eqb (f p) k))

pub wider : (m n k : ℕ) → m ≤ n → Link m k → Link n k
wider m n k h (inl l) = inl (omega arith)
wider m n k h (inr e) = inr e

pub leading_from : (f : ℕ → ℕ) (n p : ℕ) → p < n → 0 < leading f n (f p)
unfolding leading sum_below
leading_from f zero p h = absurd (omega arith)
leading_from f (suc n) p h = elim (cases_eq p n) [
  | inl e ↦
      let one : ◌≡◌ {A = ℕ} (cond (eqb (f n) (f p)) 1 0) 1 = cond-true _ _ _ (eq-eqb (f n) (f p) (ap f (sym e))) in
      omega (arith, one)
  | inr d ↦ omega (arith, leading_from f n p (omega arith))
]
