-- The first word of a line.
use Rattle.std.proofs.Common.{◌≡◌, ℕ, zero, suc, ◌+◌, ◌-◌, ◌<◌, ◌≤◌, Bool, true, false, not, ◌||◌, List, [], ◌∷◌, length, get_or, take, drop, sym, max, refl, ap, ◌∙◌, ⊎_elim, arith}
use Rattle.std.specs.List.{prefix_len}
use Rattle.std.proofs.lemmas.List.{take_rest, get_or-drop, length-drop, length-take-le, nil_from_length}
use Rattle.std.proofs.lemmas.Bool.{cond-true, cond-false, cond_both, cases_Bool, cases_lt, not-true, not-false, or_parts}
use Rattle.std.proofs.lemmas.List.Sums.{prefix_len-le-length, prefix_len_passes, prefix_len_stops}
use Rattle.words.specs.Words.{Word, onto, plain_by, joins_by, words_by, indent_by, blank, mark, words}

module _ (blanks marks : ℕ → Bool) where
  pub words_by_none : words_by blanks marks [] ≡ []
  words_by_none = refl

  pub words_by_blank : (b : ℕ) (bs : List ℕ) → blanks b ≡ true → words_by blanks marks (b ∷ bs) ≡ words_by blanks marks bs
  words_by_blank b bs e = cond-true (blanks b) _ _ e

  pub words_by_mark : (b : ℕ) (bs : List ℕ) → blanks b ≡ false → marks b ≡ true → words_by blanks marks (b ∷ bs) ≡ (b ∷ []) ∷ words_by blanks marks bs
  words_by_mark b bs e f = cond-false (blanks b) _ _ e ∙ cond-true (marks b) _ _ f

  pub words_by_plain : (b : ℕ) (bs : List ℕ) → plain_by blanks marks b ≡ true → words_by blanks marks (b ∷ bs) ≡ joins_by blanks marks b bs (words_by blanks marks bs)
  words_by_plain b bs e =
      let p = or_parts (blanks b) (marks b) (not-true _ e) in
      cond-false (blanks b) _ _ p.0 ∙ cond-false (marks b) _ _ p.1

  -- n bytes of a word, and then none, are the first word
  pub run_by : (s : List ℕ) (n : ℕ) → 0 < n → n ≤ length s → ((i : ℕ) → i < n → plain_by blanks marks (get_or s i 0) ≡ true) → (n < length s → plain_by blanks marks (get_or s n 0) ≡ false) → words_by blanks marks s ≡ take n s ∷ words_by blanks marks (drop n s)
  run_by [] n some within all stops = absurd (omega arith)
  run_by (b ∷ bs) zero some within all stops = absurd (omega arith)
  run_by (b ∷ []) (suc zero) some within all stops = words_by_plain b [] (all 0 (omega arith))
  run_by (b ∷ c ∷ cs) (suc zero) some within all stops =
      words_by_plain b (c ∷ cs) (all 0 (omega arith)) ∙ cond-false (plain_by blanks marks c) _ _ (stops (omega arith))
  run_by (b ∷ []) (suc (suc m)) some within all stops = absurd (omega arith)
  run_by (b ∷ c ∷ cs) (suc (suc m)) some within all stops =
      words_by_plain b (c ∷ cs) (all 0 (omega arith)) ∙ cond-true (plain_by blanks marks c) _ _ (all 1 (omega arith)) ∙
      ap (onto b) (run_by (c ∷ cs) (suc m) (omega arith) (omega arith) (λ i h. all (suc i) (omega arith)) (λ h. stops (omega arith)))

  pub run_within : (s : List ℕ) → prefix_len (plain_by blanks marks) s ≤ length s
  run_within s = prefix_len-le-length (plain_by blanks marks) s

  -- the plain bytes in front of a line that begins with a word, or one byte, which is then a mark, are the first word
  pub run_len : (s : List ℕ) (n : ℕ) → 0 < length s → blanks (get_or s 0 0) ≡ false → n ≡ max (prefix_len (plain_by blanks marks) s) 1 → words_by blanks marks s ≡ take n s ∷ words_by blanks marks (drop n s)
  run_len [] n some e h = absurd (omega arith)
  run_len (b ∷ bs) n some e h =
      ⊎_elim
      (λ t.
      let plain = plain_by blanks marks in
      let long : prefix_len plain (b ∷ bs) ≡ 1 + prefix_len plain bs = cond-true (plain b) _ _ t in
      let is : n ≡ prefix_len plain (b ∷ bs) = omega (arith, h, long) in
      let within = prefix_len-le-length plain (b ∷ bs) in
      run_by (b ∷ bs) n (omega (arith, long)) (omega arith) (λ i l. prefix_len_passes plain (b ∷ bs) i 0 (omega arith))
      (λ l. ap (λ k. plain (get_or (b ∷ bs) k 0)) is ∙ prefix_len_stops plain (b ∷ bs) 0 (omega arith)))
      (λ f.
      let none : prefix_len (plain_by blanks marks) (b ∷ bs) ≡ 0 = cond-false (plain_by blanks marks b) _ _ f in
      let one : n ≡ 1 = omega (arith, h, none) in
      words_by_mark b bs e (ap (λ t. t || marks b) (sym e) ∙ not-false _ f) ∙
      ap (λ k. take k (b ∷ bs) ∷ words_by blanks marks (drop k (b ∷ bs))) (sym one))
      (cases_Bool (plain_by blanks marks b))

  -- what is behind the first blanks has the same words
  words_past : (s : List ℕ) → words_by blanks marks (drop (indent_by blanks s) s) ≡ words_by blanks marks s
  words_past [] = refl
  words_past (b ∷ bs) =
      cond_both (blanks b) (1 + indent_by blanks bs) 0 (λ k. words_by blanks marks (drop k (b ∷ bs)) ≡ words_by blanks marks (b ∷ bs))
      (λ t.
      let more : 1 + indent_by blanks bs ≡ suc (indent_by blanks bs) = omega arith in
      ap (λ k. words_by blanks marks (drop k (b ∷ bs))) more ∙ words_past bs ∙ sym (words_by_blank b bs t))
      (λ f. refl)

  pub indent_within : (s : List ℕ) → indent_by blanks s ≤ length s
  indent_within s = prefix_len-le-length blanks s

  -- and begins with none
  left_begins : (s : List ℕ) → 0 < length (drop (indent_by blanks s) s) → blanks (get_or (drop (indent_by blanks s) s) 0 0) ≡ false
  left_begins s h =
      let some : indent_by blanks s < length s = omega (arith, length-drop (indent_by blanks s) s) in
      let at : indent_by blanks s + 0 ≡ indent_by blanks s = omega arith in
      ap blanks (get_or-drop (indent_by blanks s) s 0 0 ∙ ap (λ k. get_or s k 0) at) ∙ prefix_len_stops blanks s 0 some

  -- both in the shape of a slice
  module _ (s : List ℕ) (n : ℕ) (e : n ≡ indent_by blanks s) where
    left : take (length s - n) (drop n s) ≡ drop (indent_by blanks s) s
    left = take_rest s n ∙ ap (λ k. drop k s) e

    pub same_past : words_by blanks marks (take (length s - n) (drop n s)) ≡ words_by blanks marks s
    same_past = ap (words_by blanks marks) left ∙ words_past s

    pub past_begins : 0 < length (take (length s - n) (drop n s)) → blanks (get_or (take (length s - n) (drop n s)) 0 0) ≡ false
    past_begins h = ap (λ l. blanks (get_or l 0 0)) left ∙ left_begins s (omega (arith, ap length left))

  -- the first word stands behind the first blanks
  pub first_word : (s : List ℕ) (w : Word) (ws : List Word) → words_by blanks marks s ≡ w ∷ ws → (take (length w) (drop (indent_by blanks s) s) ≡ w) × (indent_by blanks s + length w ≤ length s)
  first_word s w ws e =
      let left = drop (indent_by blanks s) s in
      let said = words_past s ∙ e in
      let some : 0 < length left = ⊎_elim (λ h. h) (λ h. absurd (omega (arith, ap length (sym (ap (words_by blanks marks) (nil_from_length left (omega arith))) ∙ said)))) (cases_lt 0 (length left)) in
      let n = max (prefix_len (plain_by blanks marks) left) 1 in
      let same : take n left ≡ w = cc (sym (run_len left n some (left_begins s some) refl) ∙ said) in
      let long : length w ≡ n = sym (ap length same) ∙ length-take-le n left (omega (arith, some, run_within left)) in
      (ap (λ k. take k left) long ∙ same, omega (arith, long, some, run_within left, length-drop (indent_by blanks s) s, indent_within s))

-- the same with no marks
pub words_none : words [] ≡ []
unfolding words
words_none = words_by_none blank mark

pub words_run : (s : List ℕ) (n : ℕ) → 0 < n → n ≤ length s → ((i : ℕ) → i < n → blank (get_or s i 0) ≡ false) → (n < length s → blank (get_or s n 0) ≡ true) → words s ≡ take n s ∷ words (drop n s)
unfolding words
words_run s n some within all stops =
    run_by blank mark s n some within (λ i h. ap (λ t. not (t || false)) (all i h)) (λ h. ap (λ t. not (t || false)) (stops h))
