-- The blocks of a text have their names in it.
use Rattle.std.proofs.Common.{◌≡◌, ℕ, ◌+◌, ◌-◌, ◌≤◌, Bool, true, false, cond, ◌&&◌, eqb, leb, List, [], ◌∷◌, ◌++◌, length, take, drop, Some, Ok, sym, refl, ap, ◌∙◌, subst, arith}
use Rattle.std.specs.List.{AllByRecursion}
use Rattle.std.proofs.lemmas.List.{length-drop, drop-take, drop-drop, take-take}
use Rattle.std.proofs.lemmas.Bool.{cond-true, cond_both, and_from, le-leb}
use Rattle.names.specs.Names.{is_name}
use Rattle.names.specs.Entries.{marked}
use Rattle.grammar.specs.Words.{indent}
use Rattle.grammar.specs.Lines.{Line, line_of, begun, lines_from, skipped, used}
use Rattle.grammar.proofs.Splits.{first_stands}
use Rattle.grammar.proofs.Following.{line_stands}
use Rattle.reader.specs.Text.{Block, said, entry_of}
use Rattle.reader.specs.Found.{Named}
use Rattle.reader.specs.Accepted.{BlockIn, BodyLines, end_of_lines, terminal_line, block_line}
use Rattle.reader.proofs.Ahead.{line_within}
use Rattle.reader.proofs.Accepting.{accepted_law}

-- the line stands in the text
record Stands (text : List ℕ) (l : Line) : Type 0 where
  pub ends_within : l.start + length l.bytes ≤ length text
  pub bytes_there : take (length l.bytes) (drop l.start text) ≡ l.bytes

-- the name of a line's block stands in the text
module _ (text : List ℕ) (before : List Block) (l : Line) (b : Block) (stands : Stands text l) (i : BlockIn before l b) where
  first_there : take (length b.name) (drop (indent l.bytes) l.bytes) ≡ b.name
  first_there = (first_stands l.bytes b.name _ i.says.form).there

  first_within : indent l.bytes + length b.name ≤ length l.bytes
  first_within = (first_stands l.bytes b.name _ i.says.form).within

  name_there : marked text (entry_of b) ≡ b.name
  name_there =
      let k = indent l.bytes in
      let m = length b.name in
      let most = length l.bytes in
      let split : k + (most - k) ≡ most = omega (arith, first_within) in
      let low : m ≤ most - k = omega (arith, first_within) in
      ap (λ s. take m (drop s text)) i.place ∙
      sym
      (sym first_there ∙ ap (λ b. take m (drop k b)) (sym stands.bytes_there) ∙
      ap (λ j. take m (drop k (take j (drop l.start text)))) (sym split) ∙
      ap (take m) (drop-take k (most - k) (drop l.start text)) ∙
      take-take m (most - k) (drop k (drop l.start text)) low ∙ ap (take m) (drop-drop k l.start text))

  named : Named text b
  named =
      cond-true (leb (b.start + length b.name) (length text) && is_name (marked text (entry_of b))) _ _
      (and_from (leb (b.start + length b.name) (length text)) _ (le-leb _ _ (omega (arith, i.place, first_within, stands.ends_within)))
      (subst (λ w. is_name w ≡ true) (sym name_there) i.says.named)) ∙
      ap Some name_there

all_named : (text : List ℕ) (before : List Block) (ls : List Line) (bs : List Block) (t : ℕ) → BodyLines before ls bs t → AllByRecursion (Stands text) ls → AllByRecursion (Named text) bs
all_named text before _ _ _ end_of_lines h = tt
all_named text before _ bs _ (terminal_line {ls = ls} {t = t} n i more) h = all_named text before ls bs t more h.1
all_named text before _ _ t (block_line {l = l} {ls = ls} {b = b} {bs = bs} i more) h = (named text before l b h.0 i, all_named text (before ++ b ∷ []) ls bs t more h.1)

-- each line stands in the text
begun_stand : (text : List ℕ) (fresh : Bool) (l : Line) (ls : List Line) → Stands text l → AllByRecursion (Stands text) ls → AllByRecursion (Stands text) (begun fresh l ls)
begun_stand text true l ls here more = (here, more)
begun_stand text false l ls here more = more

lines_stand : (text : List ℕ) (fresh : Bool) (number place : ℕ) (bs : List ℕ) → drop place text ≡ bs → AllByRecursion (Stands text) (lines_from fresh number place bs)
unfolding lines_from
lines_stand text fresh number place [] e = tt
lines_stand text fresh number place (b ∷ bs) e =
    let behind = lines_from true (number + 1) (place + 1) bs in
    let on = lines_from false number (place + 1) bs in
    let rest : drop (place + 1) text ≡ bs = sym (drop-drop 1 place text) ∙ ap (drop 1) e in
    let more : AllByRecursion (Stands text) (cond (eqb b 10) behind on) =
    cond_both (eqb b 10) behind on (AllByRecursion (Stands text)) (λ t. lines_stand text true (number + 1) (place + 1) bs rest) (λ f. lines_stand text false number (place + 1) bs rest) in
    begun_stand text fresh _ _
    (record {
      ends_within = omega (arith, line_within (b ∷ bs), ap length e, length-drop place text);
      bytes_there = ap (take (length (line_of (b ∷ bs)))) e ∙ line_stands (b ∷ bs);
    })
    more

used_stand : (text : List ℕ) (ls : List Line) → AllByRecursion (Stands text) ls → AllByRecursion (Stands text) (used ls)
unfolding used
used_stand text [] h = tt
used_stand text (l ∷ ls) h =
    let more = used_stand text ls h.1 in
    cond_both (skipped l.bytes) (used ls) (l ∷ used ls) (AllByRecursion (Stands text)) (λ t. more) (λ f. (h.0, more))

pub said_named : (text : List ℕ) (blocks : List Block) → said text ≡ Ok blocks → AllByRecursion (Named text) blocks
said_named text blocks says =
    let a = (accepted_law text blocks).0 says in
    let all = subst (AllByRecursion (Stands text)) a.lines (used_stand text _ (lines_stand text true 1 0 text refl)) in
    all_named text [] a.rest blocks a.count a.body_is all.1.1.1.1
