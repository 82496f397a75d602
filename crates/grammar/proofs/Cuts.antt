-- The first line of a text, by what stands before its LF, and the lines behind it.
use Rattle.std.proofs.Common.{◌≡◌, ℕ, zero, suc, ◌-◌, ◌<◌, true, false, ◌&&◌, eqb, List, [], ◌∷◌, length, get_or, take, sym, refl, ap, ◌∙◌, ⊎_elim, arith}
use Rattle.std.proofs.lemmas.Bool.{cond-true, cond-false, cases_Bool, and_parts, and_from, and_right, or_from, or_left, or_right, eqb-true, eq-eqb, both_ways}
use Rattle.words.specs.Lines.{first_line}
use Rattle.grammar.specs.Lines.{begins, ends_here, line_of}

-- the bytes before LF, one by one
first_end : (b : ℕ) (bs : List ℕ) → eqb b 10 ≡ true → first_line (b ∷ bs) ≡ []
unfolding first_line
first_end b bs e = cond-true (eqb b 10) _ _ e

first_on : (b : ℕ) (bs : List ℕ) → eqb b 10 ≡ false → first_line (b ∷ bs) ≡ b ∷ first_line bs
unfolding first_line
first_on b bs e = cond-false (eqb b 10) _ _ e

line_end : (b : ℕ) (bs : List ℕ) → ends_here b bs ≡ true → line_of (b ∷ bs) ≡ []
unfolding line_of
line_end b bs e = cond-true (ends_here b bs) _ _ e

line_on : (b : ℕ) (bs : List ℕ) → ends_here b bs ≡ false → line_of (b ∷ bs) ≡ b ∷ line_of bs
unfolding line_of
line_on b bs e = cond-false (ends_here b bs) _ _ e

-- no byte stands before LF just where LF is the first byte
at_front : (bs : List ℕ) → begins 10 bs ≡ true → length (first_line bs) ≡ 0
unfolding first_line
at_front [] e = refl
at_front (b ∷ bs) e = ap length (first_end b bs e)

front_at : (bs : List ℕ) → length (first_line bs) ≡ 0 → 0 < length bs → begins 10 bs ≡ true
front_at [] e some = absurd (omega arith)
front_at (b ∷ bs) e some =
    ⊎_elim (λ t. t) (λ f. absurd (omega (arith, ap length (first_on b bs f)))) (cases_Bool (eqb b 10))

lf_some : (bs : List ℕ) → begins 10 bs ≡ true → 0 < length bs
lf_some [] e = absurd (both_ways false refl e)
lf_some (b ∷ bs) e = omega arith

-- a line with LF behind it whose last byte is CR ends before that
line_cut : (bs : List ℕ) (i : ℕ) → suc i ≡ length (first_line bs) → length (first_line bs) < length bs → get_or (first_line bs) i 0 ≡ 13 → take i (first_line bs) ≡ line_of bs
line_cut [] i e h cr = absurd (omega arith)
line_cut (b ∷ bs) zero e h cr =
    ⊎_elim (λ t. absurd (omega (arith, ap length (first_end b bs t))))
    (λ f.
    let fo = first_on b bs f in
    let is13 : b ≡ 13 = ap (λ l. get_or l 0 0) (sym fo) ∙ cr in
    let lf = front_at bs (omega (arith, ap length fo)) (omega (arith, ap length fo)) in
    sym (line_end b bs (or_right (eqb b 10) _ (and_from (eqb b 13) _ (eq-eqb b 13 is13) lf))))
    (cases_Bool (eqb b 10))
line_cut (b ∷ bs) (suc j) e h cr =
    ⊎_elim (λ t. absurd (omega (arith, ap length (first_end b bs t))))
    (λ f.
    let fo = first_on b bs f in
    let long = ap length fo in
    let apart : begins 10 bs ≡ false = ⊎_elim (λ t. absurd (omega (arith, long, at_front bs t))) (λ n. n) (cases_Bool (begins 10 bs)) in
    ap (take (suc j)) fo ∙
    ap (λ l. b ∷ l) (line_cut bs j (omega (arith, long)) (omega (arith, long)) (ap (λ l. get_or l (suc j) 0) (sym fo) ∙ cr)) ∙
    sym (line_on b bs (or_from (eqb b 10) _ f (and_right (eqb b 13) _ apart))))
    (cases_Bool (eqb b 10))

-- any other line ends before its LF, or with the text
line_kept : (bs : List ℕ) → ((i : ℕ) → suc i ≡ length (first_line bs) → length (first_line bs) < length bs → get_or (first_line bs) i 0 ≡ 13 → ⊥) → first_line bs ≡ line_of bs
unfolding first_line line_of
line_kept [] apart = refl
line_kept (b ∷ bs) apart =
    ⊎_elim (λ t. first_end b bs t ∙ sym (line_end b bs (or_left (eqb b 10) _ t)))
    (λ f.
    let fo = first_on b bs f in
    let long = ap length fo in
    ⊎_elim
    (λ t.
    let p = and_parts (eqb b 13) (begins 10 bs) t in
    let front = at_front bs p.1 in
    absurd (apart 0 (omega (arith, long, front)) (omega (arith, long, front, lf_some bs p.1)) (ap (λ l. get_or l 0 0) fo ∙ eqb-true b 13 p.0)))
    (λ n.
    fo ∙ ap (λ l. b ∷ l) (line_kept bs (λ i e h cr. apart (suc i) (omega (arith, long)) (omega (arith, long)) (ap (λ l. get_or l (suc i) 0) fo ∙ cr))) ∙
    sym (line_on b bs (or_from (eqb b 10) _ f n)))
    (cases_Bool (eqb b 13 && begins 10 bs)))
    (cases_Bool (eqb b 10))

-- both in the shape of the code's slices
module _ (text line : List ℕ) (e : line ≡ first_line text) where
  pub ends_cr : 0 < length line → length line < length text → get_or line (length line - 1) 0 ≡ 13 → take (length line - 1) line ≡ line_of text
  ends_cr some h cr =
      let long = ap length e in
      let at = ap (λ l. get_or l (length line - 1) 0) (sym e) ∙ cr in
      ap (take (length line - 1)) e ∙ line_cut text (length line - 1) (omega arith) (omega arith) at

  pub ends_else : (0 < length line → length line < length text → get_or line (length line - 1) 0 ≡ 13 → ⊥) → line ≡ line_of text
  ends_else apart =
      let long = ap length e in
      e ∙
      line_kept text
      (λ i s h cr. let last : length line - 1 ≡ i = omega arith in apart (omega arith) (omega arith) (ap (λ k. get_or line k 0) last ∙ ap (λ l. get_or l i 0) e ∙ cr))
