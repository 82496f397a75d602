-- What is written is read back.
use Rattle.std.proofs.Common.{◌≡◌, ℕ, ◌<◌, true, eqb, leb, List, [], ◌∷◌, ◌++◌, length, take, drop, is_some, Some, None, Ok, Err, decimal, Option, Result, sym, refl, ap, ◌∙◌, inl, inr, append_assoc, arith}
use Rattle.std.specs.List.{AllByRecursion}
use Rattle.std.proofs.lemmas.Fmt.{decimal_nonempty}
use Rattle.std.proofs.lemmas.List.{take_at}
use Rattle.std.proofs.lemmas.Bool.{cond-true, cond-false, cases_Bool, ne_eqb, leb-true, and_parts}
use Rattle.rules.specs.declared.placements.Placement.{Placement}
use Rattle.rules.specs.declared.refusals.Refusal.{Refusal}
use Rattle.rules.specs.Refusals.{answered}
use Rattle.words.specs.Words.{onto, words}
use Rattle.names.specs.declared.entries.Entry.{Entry}
use Rattle.names.specs.Names.{is_name}
use Rattle.names.specs.Entries.{marked, name_of}
use Rattle.names.proofs.Decimals.{decimal_read_back}
use Rattle.names.proofs.Marked.{marks_name}
use Rattle.writer.specs.Texts.{line, lines_of, pl_text}
use Rattle.writer.specs.Answers.{Writes, left_by, writer_refusal}
use Rattle.writer.specs.Readings.{Told, lines, told_at, told_by, in_front, told_by_lines, read_pl, placed_blocks, Short, ReadBack}
use Rattle.writer.proofs.Answering.{accepted}
use Rattle.writer.proofs.Solid.{AtLeast, at_least_append, at_least_weaker, solid_decimal, solid_name, words_first, words_last}
use Rattle.writer.proofs.Spans.{absent_line, present_line}

-- a line, and the lines behind its LF
lines_cut : (l rest : List ℕ) → AtLeast 11 l → lines (l ++ (10 ∷ rest)) ≡ l ∷ lines rest
unfolding lines
lines_cut [] rest h = refl
lines_cut (b ∷ bs) rest h = cond-false (eqb b 10) _ _ (ne_eqb b 10 (λ e. omega (arith, h.0))) ∙ ap (onto b) (lines_cut bs rest h.1)

-- a block's line without its LF
abbrev body : List ℕ → ℕ → ℕ → List ℕ
body name x y = name ++ (32 ∷ (decimal x ++ (32 ∷ decimal y)))

module _ (name : List ℕ) (x y : ℕ) (named : is_name name ≡ true) (small_x : x < 1000000000) (small_y : y < 1000000000) where
  solid : AtLeast 48 name
  solid = solid_name name (and_parts (leb (length name) 32) _ (and_parts (leb 1 (length name)) _ named).1).1

  some : 0 < length name
  some = leb-true 1 (length name) (and_parts (leb 1 (length name)) _ named).0

  level : AtLeast 11 (body name x y)
  level =
      let dx = at_least_weaker 48 11 (omega arith) (decimal x) (solid_decimal x (omega arith)) in
      let dy = at_least_weaker 48 11 (omega arith) (decimal y) (solid_decimal y (omega arith)) in
      at_least_append 11 name _ (at_least_weaker 48 11 (omega arith) name solid) (omega arith, at_least_append 11 (decimal x) _ dx (omega arith, dy))

  three_words : words (body name x y) ≡ name ∷ decimal x ∷ decimal y ∷ []
  three_words =
      words_first name _ solid some ∙
      ap (λ ws. name ∷ ws) (words_first (decimal x) (decimal y) (solid_decimal x (omega arith)) (decimal_nonempty x (omega arith)) ∙
      ap (λ ws. decimal x ∷ ws) (words_last (decimal y) (solid_decimal y (omega arith)) (decimal_nonempty y (omega arith))))

  tells : told_by (words (body name x y)) ≡ Some (record { name = name; x = x; y = y })
  tells =
      ap told_by three_words ∙ cond-true (is_name name) _ _ named ∙
      (λ j. told_at name (decimal_read_back x small_x j) (decimal_read_back y small_y j))

  -- one line more in front
  one_line : (rest : List ℕ) (ts : List Told) → told_by_lines (lines rest) ≡ Some ts → told_by_lines (lines (line name x y ++ rest)) ≡ Some (record { name = name; x = x; y = y } ∷ ts)
  unfolding told_by_lines
  one_line rest ts e =
      let cut : line name x y ++ rest ≡ body name x y ++ (10 ∷ rest) = simp append_assoc in
      ap (λ l. told_by_lines (lines l)) cut ∙ ap told_by_lines (lines_cut (body name x y) rest level) ∙ (λ j. in_front (tells j) (e j))

-- the lines of the blocks, read back
lines_back : (text : List ℕ) (es : List Entry) (ps : List Placement) → AllByRecursion (λ e. is_some (name_of text e) ≡ true) es → Short ps → told_by_lines (lines (lines_of text es ps)) ≡ Some (placed_blocks text es ps)
unfolding lines_of placed_blocks told_by_lines lines
lines_back text [] ps named short = refl
lines_back text (e ∷ es) [] named short = refl
lines_back text (e ∷ es) (p ∷ ps) named short =
    let rest = lines_back text es ps named.1 short.2 in
    elim (cases_Bool (eqb p.width 0)) [
      | inl absent ↦
          ap (λ l. told_by_lines (lines (l ++ lines_of text es ps))) (absent_line text e p absent) ∙ rest ∙
          ap Some (sym (cond-true (eqb p.width 0) _ _ absent))
      | inr present ↦
          ap (λ l. told_by_lines (lines (l ++ lines_of text es ps))) (present_line text e p present) ∙
          one_line (marked text e) p.x p.y (marks_name text e named.0) short.0 short.1 (lines_of text es ps) _ rest ∙
          ap Some (sym (cond-false (eqb p.width 0) _ _ present))
    ]

-- the header, and then the lines
header_back : (text : List ℕ) (es : List Entry) (ps : List Placement) → read_pl (pl_text text es ps) ≡ told_by_lines (lines (lines_of text es ps))
unfolding pl_text lines
header_back text es ps = refl

-- an answer that is Ok was not refused
not_refused : (o : Option Refusal) (m n : ℕ) → Ok n ≡ answered o m → (o ≡ None) × (n ≡ m)
not_refused None m n e = (refl, cc)
not_refused (Some r) m n e = let z : ◌≡◌ {A = ℕ} 0 1 = cc in absurd (omega arith)

-- what a writing left at the front of the bytes
pub read_back : (text : List ℕ) (es : List Entry) (ps : List Placement) (before after : List ℕ) (r : Result ℕ Refusal)
    → Writes (writer_refusal text es ps (length before)) (pl_text text es ps) before after r → ReadBack text es ps after r
read_back text es ps before after (Err e) w = tt
read_back text es ps before after (Ok n) w = λ short.
    let ok = not_refused (writer_refusal text es ps (length before)) _ n w.answer in
    let written : after ≡ pl_text text es ps ++ drop (length (pl_text text es ps)) before = w.bytes ∙ ap (λ o. left_by o (pl_text text es ps) before) ok.0 in
    let front : take n after ≡ pl_text text es ps = ap (take n) written ∙ take_at (pl_text text es ps) _ n (sym ok.1) in
    ap read_pl front ∙ header_back text es ps ∙ lines_back text es ps (accepted text es ps (length before) ok.0).named short
