-- How a number's digits follow from those of its tenth.
use Rattle.std.proofs.Common.{◌≡◌, ℕ, ◌+◌, ◌/◌, ◌%◌, ◌^◌, ◌<◌, ◌≤◌, length, decimal, sym, ap, ◌∙◌}
use Rattle.std.proofs.lemmas.List.{length_push}
use Rattle.std.proofs.lemmas.Fmt.{decimal_digit, decimal_step}

pub count_one : (n : ℕ) → n < 10 → 1 ≡ length (decimal n)
count_one n h = sym (ap length (decimal_digit n h))

pub count_more : (n : ℕ) → 10 ≤ n → n < 2 ^ 64 → length (decimal (n / 10)) + 1 ≡ length (decimal n)
count_more n h k = sym (ap length (decimal_step n h k) ∙ length_push (decimal (n / 10)) (48 + n % 10))
