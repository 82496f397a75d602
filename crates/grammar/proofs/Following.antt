-- The lines of a text, one by one.
use Rattle.std.proofs.Common.{◌≡◌, ℕ, suc, ◌+◌, ◌-◌, ◌<◌, ◌≤◌, true, false, eqb, List, [], ◌∷◌, length, take, drop, sym, refl, ap, ◌∙◌, arith}
use Rattle.std.proofs.lemmas.Bool.{cond-true, cond-false, cond_both}
use Rattle.words.specs.Lines.{behind_line}
use Rattle.grammar.specs.Lines.{ends_here, line_of, lines_from, skipped, used, used_from}

pub behind_short : (bs : List ℕ) → length (behind_line bs) ≤ length bs
unfolding behind_line
behind_short [] = omega arith
behind_short (b ∷ bs) =
    let shorter = behind_short bs in
    cond_both (eqb b 10) bs (behind_line bs) (λ l. length l ≤ suc (length bs)) (λ e. omega arith) (λ e. omega arith)

-- what is behind a line stands at the end of the text
pub behind_stands : (bs : List ℕ) → drop (length bs - length (behind_line bs)) bs ≡ behind_line bs
unfolding behind_line
behind_stands [] = refl
behind_stands (b ∷ bs) =
    cond_both (eqb b 10) bs (behind_line bs) (λ l. drop (suc (length bs) - length l) (b ∷ bs) ≡ l)
    (λ t. let one : suc (length bs) - length bs ≡ 1 = omega arith in ap (λ n. drop n (b ∷ bs)) one)
    (λ f.
    let more : suc (length bs) - length (behind_line bs) ≡ suc (length bs - length (behind_line bs)) = let shorter = behind_short bs in omega arith in
    ap (λ n. drop n (b ∷ bs)) more ∙ behind_stands bs)

-- and a line at the front
pub line_stands : (bs : List ℕ) → take (length (line_of bs)) bs ≡ line_of bs
unfolding line_of
line_stands [] = refl
line_stands (b ∷ bs) =
    cond_both (ends_here b bs) [] (b ∷ line_of bs) (λ l. take (length l) (b ∷ bs) ≡ l) (λ t. refl) (λ f. ap (λ l. b ∷ l) (line_stands bs))

-- in a line, up to the next
next_begins : (number place q : ℕ) (bs : List ℕ) → q ≡ place + (length bs - length (behind_line bs)) → lines_from false number place bs ≡ lines_from true (number + 1) q (behind_line bs)
unfolding lines_from behind_line
next_begins number place q [] = λ e. refl
next_begins number place q (b ∷ bs) =
    cond_both (eqb b 10) bs (behind_line bs)
    (λ l. q ≡ place + (length (b ∷ bs) - length l) → lines_from false number place (b ∷ bs) ≡ lines_from true (number + 1) q l)
    (λ t e.
    let at : place + 1 ≡ q = omega arith in
    cond-true (eqb b 10) _ _ t ∙ ap (λ p. lines_from true (number + 1) p bs) at)
    (λ f e. cond-false (eqb b 10) _ _ f ∙ next_begins number (place + 1) q bs (let shorter = behind_short bs in omega arith))

-- the first line, and those behind it
first_and_behind : (number place : ℕ) (bs : List ℕ) → 0 < length bs → lines_from true number place bs ≡ record { number = number; start = place; bytes = line_of bs } ∷ lines_from true (number + 1) (place + (length bs - length (behind_line bs))) (behind_line bs)
unfolding lines_from
first_and_behind number place [] some = absurd (omega arith)
first_and_behind number place (b ∷ bs) some =
    ap (λ l. record { number = number; start = place; bytes = line_of (b ∷ bs) } ∷ l) (next_begins number place _ (b ∷ bs) refl)

-- the same of the first line and what is behind it as they are found
module _ (number place : ℕ) (bs line behind : List ℕ) (first : line ≡ line_of bs) (rest : behind ≡ behind_line bs) (shorter : length behind < length bs) where
  lines_are : lines_from true number place bs ≡ record { number = number; start = place; bytes = line } ∷ lines_from true (number + 1) (place + (length bs - length behind)) behind
  lines_are =
      first_and_behind number place bs (omega arith) ∙
      (λ i. record { number = number; start = place; bytes = sym first i } ∷ lines_from true (number + 1) (place + (length bs - length (sym rest i))) (sym rest i))

  pub used_here : skipped line ≡ false → used_from number place bs ≡ record { number = number; start = place; bytes = line } ∷ used_from (number + 1) (place + (length bs - length behind)) behind
  unfolding used
  used_here f = ap used lines_are ∙ cond-false (skipped line) _ _ f

  pub used_behind : skipped line ≡ true → used_from number place bs ≡ used_from (number + 1) (place + (length bs - length behind)) behind
  unfolding used
  used_behind t = ap used lines_are ∙ cond-true (skipped line) _ _ t

pub none_used : (number place : ℕ) → used_from number place [] ≡ []
unfolding used lines_from
none_used number place = refl
