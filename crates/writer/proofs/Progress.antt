-- The .pl text, one line more at each turn.
use Rattle.std.proofs.Common.{◌≡◌, ℕ, ◌+◌, ◌≤◌, true, List, [], ◌∷◌, ◌++◌, length, is_some, sym, refl, ap, ◌∙◌, subst, append_assoc, arith, length-append}
use Rattle.std.specs.List.{AllByRecursion}
use Rattle.std.proofs.lemmas.List.{append-nil}
use Rattle.rules.specs.declared.placements.Placement.{Placement}
use Rattle.names.specs.declared.entries.Entry.{Entry}
use Rattle.names.specs.Entries.{name_of}
use Rattle.writer.specs.declared.pen.Pen.{Pen}
use Rattle.writer.specs.Bytes.{ahead, loan, Added}
use Rattle.writer.specs.Texts.{header, line_of, lines_of, pl_text}
use Rattle.writer.proofs.Adding.{added_more}

pub length_pl_text : (text : List ℕ) (es : List Entry) (ps : List Placement) → length (pl_text text es ps) ≡ 13 + length (lines_of text es ps)
unfolding pl_text
length_pl_text text es ps = length-append header (lines_of text es ps)

-- each of the blocks to come has a name and a place
pub record ToCome (text : List ℕ) (es : List Entry) (ps : List Placement) : Type 0 where
  pub lengths : length es ≡ length ps
  pub named : AllByRecursion (λ e. is_some (name_of text e) ≡ true) es

-- left bytes of the room are left for their lines
pub record Left (text : List ℕ) (room left whole : ℕ) (es : List Entry) (ps : List Placement) : Type 0 where
  pub to_come : ToCome text es ps
  pub fits : room + length (lines_of text es ps) ≡ left + whole

pub left_begun : (text : List ℕ) (room left : ℕ) (es es2 : List Entry) (ps ps2 : List Placement) → ToCome text es ps → left + 13 ≡ room → es2 ≡ es → ps2 ≡ ps → Left text room left (length (pl_text text es ps)) es2 ps2
left_begun text room left es es2 ps ps2 h l e p =
    subst (λ x. Left text room left (length (pl_text text es ps)) x ps2) (sym e)
    (subst (Left text room left (length (pl_text text es ps)) es) (sym p) (record { to_come = h; fits = omega (arith, length_pl_text text es ps) }))

-- from p on q has written all but their lines
pub record Coming (p q : Pen) (text whole : List ℕ) (es : List Entry) (ps : List Placement) : Type 0 where
  pub to_come : ToCome text es ps
  pub same : loan q ≡ loan p
  pub done : List ℕ
  pub added : Added p done q
  pub goes_on : done ++ lines_of text es ps ≡ whole

pub begun : (p q : Pen) (text : List ℕ) (es es2 : List Entry) (ps ps2 : List Placement) → ToCome text es ps → loan q ≡ loan p → Added p header q → es2 ≡ es → ps2 ≡ ps → Coming p q text (pl_text text es ps) es2 ps2
unfolding pl_text
begun p q text es es2 ps ps2 h l a e f =
    subst (λ x. Coming p q text (pl_text text es ps) x ps2) (sym e)
    (subst (Coming p q text (pl_text text es ps) es) (sym f) (record { to_come = h; same = l; done = header; added = a; goes_on = refl }))

module _ (p q : Pen) (text whole : List ℕ) (es0 es : List Entry) (ps0 ps : List Placement) (e : Entry) (b : Placement) (c : Coming p q text whole es0 ps0) (is : es0 ≡ e ∷ es) (at : ps0 ≡ b ∷ ps) where
  next_line : c.done ++ (line_of text e b ++ lines_of text es ps) ≡ whole
  unfolding lines_of
  next_line = sym (λ i. c.done ++ lines_of text (is i) (at i)) ∙ c.goes_on

  pub line_has_room : length whole ≤ length (ahead p) → length (line_of text e b) ≤ length (ahead q)
  line_has_room h =
      omega (arith, ap length next_line, length-append c.done (line_of text e b ++ lines_of text es ps), length-append (line_of text e b) (lines_of text es ps), c.added.room)

  pub one_more : (r : Pen) → loan r ≡ loan q → Added q (line_of text e b) r → Coming p r text whole es ps
  one_more r l a =
      let h = subst (AllByRecursion (λ e. is_some (name_of text e) ≡ true)) is c.to_come.named in
      record {
        to_come = record { lengths = omega (arith, c.to_come.lengths, ap length is, ap length at); named = h.1 };
        same = l ∙ c.same;
        done = c.done ++ line_of text e b;
        added = added_more c.added a;
        goes_on = append_assoc c.done (line_of text e b) (lines_of text es ps) ∙ next_line;
      }

pub ended : (p q : Pen) (text whole : List ℕ) (es : List Entry) (ps : List Placement) → Coming p q text whole es ps → es ≡ [] → Added p whole q
unfolding lines_of
ended p q text whole es ps c e =
    subst (λ t. Added p t q) (sym (append-nil c.done) ∙ sym (ap (λ l. c.done ++ lines_of text l ps) e) ∙ c.goes_on) c.added
