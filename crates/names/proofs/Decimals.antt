-- Decimal spelling, read back.
use Rattle.std.proofs.Common.{◌≡◌, ℕ, ◌+◌, ◌-◌, ◌*◌, ◌/◌, ◌%◌, ◌^◌, ◌<◌, ◌≤◌, Bool, true, false, cond, List, [], ◌∷◌, ◌++◌, length, Some, None, decimal, Option, refl, ap, ◌∙◌, arith}
use Rattle.std.specs.Char.{is_ascii_digit}
use Rattle.std.proofs.lemmas.Fmt.{decimal_by_steps, decimal_nonempty, length-decimal-le}
use Rattle.std.proofs.lemmas.Bool.{cond-true, le-leb}
use Rattle.words.specs.Numbers.{spelt_after, number_of}

-- 0 to 9 as a byte
is_digit : (d : ℕ) → d < 10 → is_ascii_digit (48 + d) ≡ true
is_digit d h = simp (le-leb 48 (48 + d) (omega arith), le-leb (48 + d) 57 (omega arith))

-- what holds of the value behind a test holds behind it of another value too
past_test : (t : Bool) (x y : Option ℕ) (m n : ℕ) → (x ≡ Some m → y ≡ Some n) → cond t x None ≡ Some m → cond t y None ≡ Some n
past_test true x y m n f e = f e
past_test false x y m n f e = let z : ◌≡◌ {A = ℕ} 0 1 = cc in absurd (omega arith)

spelt_none : spelt_after 0 [] ≡ Some 0
unfolding spelt_after
spelt_none = refl

-- a digit behind digits that spell m
spelt_push : (m k : ℕ) (ds : List ℕ) (d : ℕ) → d < 10 → spelt_after k ds ≡ Some m → spelt_after k (ds ++ ((48 + d) ∷ [])) ≡ Some (m * 10 + d)
unfolding spelt_after
spelt_push m k [] d small e =
    let same : k ≡ m = cc in
    cond-true (is_ascii_digit (48 + d)) _ _ (is_digit d small) ∙ ap Some (omega arith)
spelt_push m k (b ∷ bs) d small e =
    past_test (is_ascii_digit b) _ _ m (m * 10 + d) (spelt_push m (k * 10 + (b - 48)) bs d small) e

-- the digits of n spell n
pub spelt_decimal : (n : ℕ) → n < 2 ^ 64 → spelt_after 0 (decimal n) ≡ Some n
spelt_decimal =
    decimal_by_steps (λ n ds. spelt_after 0 ds ≡ Some n)
    (λ n small. spelt_push 0 0 [] n small spelt_none ∙ ap Some (omega arith))
    (λ n ds big e. spelt_push (n / 10) 0 ds (n % 10) (omega arith) e ∙ ap Some (omega arith))

-- a number below 10 ^ 9 is read back as it was spelt
pub decimal_read_back : (n : ℕ) → n < 1000000000 → number_of (decimal n) ≡ Some n
decimal_read_back n h =
    let some : 1 ≤ length (decimal n) = decimal_nonempty n (omega arith) in
    let few : length (decimal n) ≤ 9 = length-decimal-le 9 n (omega arith) h (omega arith) in
    simp (le-leb 1 (length (decimal n)) some, le-leb (length (decimal n)) 9 few) (spelt_decimal n (omega arith))
