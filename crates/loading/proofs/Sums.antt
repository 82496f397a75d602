-- Sums over the numbers below n.
use Rattle.std.proofs.Common.{◌≡◌, ℕ, zero, suc, ◌≤◌, refl, arith}
use Rattle.rules.specs.Links.{sum_below}

pub sum_same : (g h : ℕ → ℕ) (n : ℕ) → ((k : ℕ) → g k ≡ h k) → sum_below g n ≡ sum_below h n
unfolding sum_below
sum_same g h zero e = refl
sum_same g h (suc n) e = omega (arith, e n, sum_same g h n e)

pub sum_mono : (g h : ℕ → ℕ) (n : ℕ) → ((k : ℕ) → g k ≤ h k) → sum_below g n ≤ sum_below h n
unfolding sum_below
sum_mono g h zero l = omega arith
sum_mono g h (suc n) l = omega (arith, l n, sum_mono g h n l)
