-- What is known of an entry that marks a name.
use Rattle.std.proofs.Common.{◌≡◌, ℕ, ◌+◌, ◌≤◌, Bool, true, false, cond, leb, List, length, drop, is_some, Some, None, Option, sym, ap, ◌∙◌, arith}
use Rattle.std.specs.Option.{option_map}
use Rattle.std.proofs.lemmas.List.{length-take-le, length-drop}
use Rattle.std.proofs.lemmas.Option.{cond_some}
use Rattle.std.proofs.lemmas.Bool.{leb-true, and_parts}
use Rattle.names.specs.declared.entries.Entry.{Entry}
use Rattle.names.specs.Names.{is_name}
use Rattle.names.specs.Entries.{marked, name_of}

-- an answer that is there passed its test
passed : {A : Type 0} (t : Bool) (a : A) → is_some (cond t (Some a) None) ≡ true → t ≡ true
passed true a e = e
passed false a e = e

-- what a lent answer has, the answer has
pub lent_some : {A B : Type 0} (f : A → B) (lent : Option A) (answer : Option B) (b : Bool) → option_map f lent ≡ answer → is_some lent ≡ b → is_some answer ≡ b
lent_some f None answer b e h = ap is_some (sym e) ∙ h
lent_some f (Some x) answer b e h = ap is_some (sym e) ∙ h

module _ (text : List ℕ) (e : Entry) where
  pub name_is_marked : (name : List ℕ) → Some name ≡ name_of text e → name ≡ marked text e
  name_is_marked name h = sym (cond_some _ (marked text e) name (sym h)).1

  module _ (h : is_some (name_of text e) ≡ true) where
    pub marks_within : e.start + e.len ≤ length text
    marks_within = leb-true (e.start + e.len) (length text) (and_parts _ (is_name (marked text e)) (passed _ (marked text e) h)).0

    pub marks_name : is_name (marked text e) ≡ true
    marks_name = (and_parts (leb (e.start + e.len) (length text)) _ (passed _ (marked text e) h)).1

    pub length_marked : length (marked text e) ≡ e.len
    length_marked = length-take-le e.len (drop e.start text) (omega (arith, length-drop e.start text, marks_within))
