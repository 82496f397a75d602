-- Answers of the writers.
use Rattle.std.proofs.Common.{◌≡◌, ℕ, ◌<◌, ◌≤◌, not, eqb, ltb, List, [], ◌++◌, length, is_some, true, Some, None, Ok, Err, Option, sym, refl, ap, ◌∙◌, arith}
use Rattle.std.proofs.lemmas.Bool.{cond-true, cond-false, lt-ltb, le-ltb, ltb-false, eqb-true, not-false}
use Rattle.rules.specs.declared.placements.Placement.{Placement}
use Rattle.rules.specs.declared.refusals.Refusal.{Refusal}
use Rattle.rules.specs.declared.refusals.Refusal.TheVariants.{LengthsDiffer, MemoryTooShort, TextTooLong}
use Rattle.rules.specs.Refusals.{answered}
use Rattle.std.specs.List.{AllByRecursion}
use Rattle.rules.specs.Loads.{first}
use Rattle.loading.proofs.Refusing.{past_when, past_found}
use Rattle.names.specs.declared.entries.Entry.{Entry}
use Rattle.names.specs.Entries.{name_of}
use Rattle.writer.specs.declared.pen.Pen.{Pen}
use Rattle.writer.specs.Bytes.{written, ahead, Added}
use Rattle.writer.specs.Texts.{pl_text}
use Rattle.writer.proofs.Adding.{wrote_all}
use Rattle.writer.proofs.Finding.{first_position, all_named}
use Rattle.writer.specs.Answers.{Writes, left_by, too_short, unnamed, no_name, writer_refusal}

pub too_long : (text : List ℕ) (room : ℕ) → room < length text → too_short text room ≡ Some MemoryTooShort
too_long text room h = cond-true (ltb room (length text)) _ _ (lt-ltb room (length text) h)

pub short_enough : (text : List ℕ) (room : ℕ) → length text ≤ room → too_short text room ≡ None
short_enough text room h = cond-false (ltb room (length text)) _ _ (le-ltb room (length text) h)

-- what is known once all tests of the writer are passed
pub record Accepted (text : List ℕ) (es : List Entry) (ps : List Placement) (room : ℕ) : Type 0 where
  pub lengths : length es ≡ length ps
  pub named : AllByRecursion (λ e. is_some (name_of text e) ≡ true) es
  pub fits : length (pl_text text es ps) ≤ room

module _ (text : List ℕ) (es : List Entry) (ps : List Placement) (room : ℕ) where
  pub accepted : writer_refusal text es ps room ≡ None → Accepted text es ps room
  unfolding writer_refusal
  accepted e =
      let a = past_when (ltb 65536 (length text)) TextTooLong _ None (λ q. omega arith) e in
      let b = past_when (not (eqb (length es) (length ps))) LengthsDiffer _ None (λ q. omega arith) a.1 in
      let d = past_found (first (unnamed text es) 0 (length es)) no_name (too_short (pl_text text es ps) room) None (λ k q. omega arith) b.1 in
      record {
        lengths = eqb-true (length es) (length ps) (not-false _ b.0);
        named = all_named text es (sym (first_position text es) ∙ d.0);
        fits = ltb-false room (length (pl_text text es ps)) (past_when _ MemoryTooShort None None (λ q. omega arith) d.1).0;
      }

-- a text that is refused
pub refuses : (o : Option Refusal) (text before : List ℕ) (r : Refusal) → o ≡ Some r → Writes o text before before (Err r)
refuses o text before r e = record { answer = ap (λ o. answered o (length text)) (sym e); bytes = ap (λ o. left_by o text before) (sym e) }

-- a text that a pen writes from the front
pub writes : (o : Option Refusal) (text before after : List ℕ) (n : ℕ) (p q : Pen) → o ≡ None → written p ≡ [] → ahead p ≡ before → Added p text q → after ≡ q.out.now → n ≡ length (written q) → Writes o text before after (Ok n)
writes o text before after n p q e none all added at count =
    record {
      answer = ap Ok (count ∙ ap length (added.behind ∙ ap (λ l. l ++ text) none)) ∙ ap (λ o. answered o (length text)) (sym e);
      bytes = at ∙ wrote_all p q text before none all added ∙ ap (λ o. left_by o text before) (sym e);
    }

-- tests that are passed refuse nothing
pub none_of : (o : Option Refusal) (u : Unit {0}) → answered o tt ≡ Ok u → o ≡ None
none_of None u e = refl
none_of (Some r) u e = let z : ◌≡◌ {A = ℕ} 0 1 = cc in absurd (omega arith)
