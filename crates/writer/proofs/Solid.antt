-- Words of name bytes and of digits, parted by spaces.
use Rattle.std.proofs.Common.{◌≡◌, ℕ, zero, suc, ◌+◌, ◌%◌, ◌^◌, ◌<◌, ◌≤◌, true, false, List, [], ◌∷◌, ◌++◌, length, get_or, decimal, refl, ap, ◌∙◌, inl, inr, arith, length-append}
use lib.ListN.{get_or-append}
use Rattle.std.specs.Int.{is_in_range}
use Rattle.std.proofs.lemmas.Fmt.{decimal_by_steps}
use Rattle.std.proofs.lemmas.List.{take_at, drop_at, get_or_at, take_all, drop_all}
use Rattle.std.proofs.lemmas.Bool.{ne_eqb, eqb-true, leb-true, or_cases, or_from, and_parts}
use Rattle.words.specs.Words.{blank, words}
use Rattle.words.proofs.Splits.{words_run, words_none}
use Rattle.names.specs.Names.{is_name_byte, all_name_bytes}

-- each byte is at least k
abbrev pub AtLeast : ℕ → List ℕ → Type 0
AtLeast k [] = Unit {0}
AtLeast k (b ∷ bs) = (k ≤ b) × AtLeast k bs

pub at_least_append : (k : ℕ) (xs ys : List ℕ) → AtLeast k xs → AtLeast k ys → AtLeast k (xs ++ ys)
at_least_append k [] ys h g = g
at_least_append k (x ∷ xs) ys h g = (h.0, at_least_append k xs ys h.1 g)

pub at_least_weaker : (k j : ℕ) → j ≤ k → (xs : List ℕ) → AtLeast k xs → AtLeast j xs
at_least_weaker k j l [] h = tt
at_least_weaker k j l (x ∷ xs) h = (omega (arith, h.0), at_least_weaker k j l xs h.1)

at_least_at : (k : ℕ) (xs : List ℕ) (i : ℕ) → AtLeast k xs → i < length xs → k ≤ get_or xs i 0
at_least_at k [] i h l = absurd (omega arith)
at_least_at k (x ∷ xs) zero h l = h.0
at_least_at k (x ∷ xs) (suc i) h l = at_least_at k xs i h.1 (omega arith)

-- digits, letters and the underscore have codes from 48 on; blanks and LF have lower ones
pub solid_decimal : (n : ℕ) → n < 2 ^ 64 → AtLeast 48 (decimal n)
solid_decimal =
    decimal_by_steps (λ n ds. AtLeast 48 ds) (λ n h. (omega arith, tt)) (λ n ds h all. at_least_append 48 ds ((48 + n % 10) ∷ []) all (omega arith, tt))

solid_byte : (b : ℕ) → is_name_byte b ≡ true → 48 ≤ b
solid_byte b h = elim (or_cases _ _ h) [
  | inl alnum ↦ elim (or_cases _ (is_in_range 97 122 b) alnum) [
    | inl low ↦ elim (or_cases (is_in_range 48 57 b) (is_in_range 65 90 b) low) [
      | inl digit ↦ leb-true 48 b (and_parts _ _ digit).0
      | inr upper ↦ let l = leb-true 65 b (and_parts _ _ upper).0 in omega arith
    ]
    | inr lower ↦ let l = leb-true 97 b (and_parts _ _ lower).0 in omega arith
  ]
  | inr underscore ↦ let e = eqb-true b 95 underscore in omega arith
]

pub solid_name : (bs : List ℕ) → all_name_bytes bs ≡ true → AtLeast 48 bs
solid_name [] h = tt
solid_name (b ∷ bs) h = let p = and_parts (is_name_byte b) (all_name_bytes bs) h in (solid_byte b p.0, solid_name bs p.1)

no_blank : (b : ℕ) → 48 ≤ b → blank b ≡ false
no_blank b h = or_from _ _ (ne_eqb b 32 (λ e. omega arith)) (or_from _ _ (ne_eqb b 9 (λ e. omega arith)) (ne_eqb b 13 (λ e. omega arith)))

-- a word with a space behind it, and a last word
pub words_first : (w rest : List ℕ) → AtLeast 48 w → 0 < length w → words (w ++ (32 ∷ rest)) ≡ w ∷ words rest
unfolding words
words_first w rest solid some =
    words_run (w ++ (32 ∷ rest)) (length w) some (omega (arith, length-append w (32 ∷ rest)))
    (λ i h. ap blank (get_or-append w (32 ∷ rest) 0 i h) ∙ no_blank _ (at_least_at 48 w i solid h))
    (λ h. ap blank (get_or_at w 32 rest 0 (length w) refl)) ∙
    (λ j. take_at w (32 ∷ rest) (length w) refl j ∷ words (drop_at w (32 ∷ rest) (length w) refl j))

pub words_last : (w : List ℕ) → AtLeast 48 w → 0 < length w → words w ≡ w ∷ []
words_last w solid some =
    words_run w (length w) some (omega arith) (λ i h. no_blank _ (at_least_at 48 w i solid h)) (λ h. absurd (omega arith)) ∙
    (λ j. take_all (length w) w (omega arith) j ∷ words (drop_all (length w) w (omega arith) j)) ∙ ap (λ l. w ∷ l) words_none
