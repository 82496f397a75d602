-- A number read digit by digit.
use Rattle.std.proofs.Common.{◌≡◌, ℕ, suc, ◌+◌, ◌-◌, ◌*◌, ◌^◌, ◌<◌, ◌≤◌, List, length, get_or, drop, true, Some, None, sym, ap, ◌∙◌, ⊎_elim, pow-suc, arith}
use native.Mathlib.Nat.{pow-le-pow_right}
use Rattle.std.specs.Char.{digit_value, is_ascii_digit}
use Rattle.std.proofs.lemmas.Bool.{cond-true, cond-false, cases_Bool, and_from, and_parts, leb-true, le-leb}
use Rattle.std.proofs.lemmas.List.{drop_more, drop_all}
use Rattle.std.proofs.lemmas.Str.{digit_value_digit}
use Rattle.std.proofs.lemmas.Str.Parse.{digit_from_value}
use Rattle.words.specs.Numbers.{spelt_after}

-- the digits from i on, behind those of n
module _ (w : List ℕ) (i n c : ℕ) (at : c ≡ get_or w i 0) (h : i < length w) where
  pub one_digit : (d : ℕ) → digit_value c < 10 → d ≡ digit_value c → spelt_after n (drop i w) ≡ spelt_after (n * 10 + d) (drop (i + 1) w)
  unfolding spelt_after
  one_digit d v e =
      let r = digit_from_value c v in
      let is : is_ascii_digit (get_or w i 0) ≡ true = ap is_ascii_digit (sym at) ∙ and_from _ _ (le-leb 48 c r.0) (le-leb c 57 r.1) in
      let same : get_or w i 0 - 48 ≡ d = omega (arith, at, e, digit_value_digit c r) in
      ap (spelt_after n) (drop_more w i 0 h) ∙ cond-true (is_ascii_digit (get_or w i 0)) _ _ is ∙
      ap (λ k. spelt_after (n * 10 + k) (drop (i + 1) w)) same

  pub no_digit : (digit_value c < 10 → ⊥) → spelt_after n (drop i w) ≡ None
  unfolding spelt_after
  no_digit v =
      ap (spelt_after n) (drop_more w i 0 h) ∙
      ⊎_elim
      (λ t.
      let p = and_parts _ _ (ap is_ascii_digit at ∙ t) in
      let low = leb-true 48 c p.0 in
      let high = leb-true c 57 p.1 in
      absurd (v (omega (arith, digit_value_digit c (low, high)))))
      (cond-false (is_ascii_digit (get_or w i 0)) _ _)
      (cases_Bool (is_ascii_digit (get_or w i 0)))

pub no_more_digits : (w : List ℕ) (i n : ℕ) → length w ≤ i → spelt_after n (drop i w) ≡ Some n
unfolding spelt_after
no_more_digits w i n h = ap (spelt_after n) (drop_all i w h)

-- fewer than 9 digits spell less than 10 ^ 8
pub below_nine : (i n : ℕ) → i < 9 → n < 10 ^ i → n < 100000000
below_nine i n few h =
    let low : i ≤ 8 = omega arith in let p : 10 ^ i ≤ 10 ^ 8 = pow-le-pow_right (omega arith) low in omega arith

-- one more digit
pub one_power : (i n d : ℕ) → n < 10 ^ i → d < 10 → n * 10 + d < 10 ^ (i + 1)
one_power i n d h k = let e : i + 1 ≡ suc i = omega arith in omega (arith, pow-suc 10 i, ap (λ k. 10 ^ k) e)
