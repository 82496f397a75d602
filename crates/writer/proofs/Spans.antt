-- How long the lines are.
use Rattle.std.proofs.Common.{◌≡◌, ℕ, ◌+◌, true, false, eqb, List, [], length, is_some, Some, decimal, sym, ap, ◌∙◌, append_assoc, arith, length-append}
use Rattle.std.proofs.lemmas.Bool.{cond-true, cond-false}
use Rattle.rules.specs.declared.placements.Placement.{Placement}
use Rattle.rules.specs.declared.refusals.Refusal.{Refusal}
use Rattle.rules.specs.Refusals.{number, place}
use Rattle.names.specs.declared.entries.Entry.{Entry}
use Rattle.names.specs.Entries.{marked, name_of}
use Rattle.names.proofs.Marked.{name_is_marked, length_marked}
use Rattle.writer.specs.Texts.{line, line_of, refused, refusal_line}

pub length_line : (name : List ℕ) (x y : ℕ) → length (line name x y) ≡ length name + (length (decimal x) + (length (decimal y) + 3))
length_line name x y = simp length-append (omega arith)

pub length_refused : (n p : ℕ) → length (refused n p) ≡ length (decimal n) + (length (decimal p) + 13)
length_refused n p = simp length-append (omega arith)

-- the line of a refusal by its number and place
pub refusal_line_is : (r : Refusal) (n p : ℕ) → n ≡ number r → p ≡ place r → refused n p ≡ refusal_line r
unfolding refusal_line
refusal_line_is r n p en ep = (λ i. refused (en i) (ep i)) ∙ simp append_assoc

module _ (text : List ℕ) (e : Entry) (p : Placement) where
  pub absent_line : eqb p.width 0 ≡ true → line_of text e p ≡ []
  unfolding line_of
  absent_line h = cond-true (eqb p.width 0) _ _ h

  pub present_line : eqb p.width 0 ≡ false → line_of text e p ≡ line (marked text e) p.x p.y
  unfolding line_of
  present_line h = cond-false (eqb p.width 0) _ _ h

  -- the line with the name that the entry marks
  pub named_line : (name : List ℕ) → Some name ≡ name_of text e → eqb p.width 0 ≡ false → line name p.x p.y ≡ line_of text e p
  named_line name is h = ap (λ n. line n p.x p.y) (name_is_marked text e name is) ∙ sym (present_line h)

  pub length_present_line : is_some (name_of text e) ≡ true → eqb p.width 0 ≡ false → length (line_of text e p) ≡ e.len + (length (decimal p.x) + (length (decimal p.y) + 3))
  length_present_line named h =
      ap length (present_line h) ∙ length_line (marked text e) p.x p.y ∙ ap (λ n. n + (length (decimal p.x) + (length (decimal p.y) + 3))) (length_marked text e named)
