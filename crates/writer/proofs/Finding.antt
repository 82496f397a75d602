-- The first entry that marks no name, by its number.
use Rattle.std.proofs.Common.{◌≡◌, ℕ, suc, ◌+◌, ◌<◌, Bool, true, cond, not, List, [], ◌∷◌, length, get_or, is_some, Some, None, sym, refl, ap, ◌∙◌, inl, inr, arith}
use Rattle.std.specs.List.{position_from, AllByRecursion}
use Rattle.std.specs.List.{position}
use Rattle.std.proofs.lemmas.Iterator.Adapters.{position_from-zero}
use Rattle.std.proofs.lemmas.Bool.{cond-true, cond-false, cases_Bool, not-false}
use Rattle.rules.specs.Loads.{first}
use Rattle.names.specs.declared.entries.Entry.{Entry}
use Rattle.names.specs.Entries.{name_of}
use Rattle.writer.specs.Answers.{unnamed}

-- a search by numbers finds what a search of the list finds
first_from : (f : ℕ → Bool) (p : Entry → Bool) (d : Entry) (i : ℕ) (es : List Entry) → ((k : ℕ) → k < length es → f (i + k) ≡ p (get_or es k d)) → first f i (length es) ≡ position_from p i es
unfolding first
first_from f p d i [] h = refl
first_from f p d i (e ∷ es) h =
    let at : i + 0 ≡ i = omega arith in
    let here : f i ≡ p e = ap f (sym at) ∙ h 0 (omega arith) in
    let more = first_from f p d (i + 1) es (λ k l. let next : i + suc k ≡ i + 1 + k = omega arith in ap f (sym next) ∙ h (suc k) (omega arith)) in
    λ j. cond (here j) (Some i) (more j)

module _ (text : List ℕ) where
  abbrev nameless : Entry → Bool
  nameless e = not (is_some (name_of text e))

  pub first_position : (es : List Entry) → first (unnamed text es) 0 (length es) ≡ position nameless es
  first_position es = first_from (unnamed text es) nameless (record { start = 0; len = 0; size = record { width = 0; height = 0 } }) 0 es (λ k h. let same : 0 + k ≡ k = omega arith in ap (unnamed text es) same) ∙ sym (position_from-zero nameless es)

  -- where none is found, each marks a name
  all_from : (i : ℕ) (es : List Entry) → position_from nameless i es ≡ None → AllByRecursion (λ e. is_some (name_of text e) ≡ true) es
  all_from i [] h = tt
  all_from i (e ∷ es) h = elim (cases_Bool (nameless e)) [
    | inl t ↦ absurd (let z : ◌≡◌ {A = ℕ} 0 1 = cc (sym (cond-true (nameless e) (Some i) (position_from nameless (i + 1) es) t) ∙ h) in omega arith)
    | inr f ↦ (not-false _ f, all_from (i + 1) es (sym (cond-false (nameless e) (Some i) (position_from nameless (i + 1) es) f) ∙ h))
  ]

  pub all_named : (es : List Entry) → position nameless es ≡ None → AllByRecursion (λ e. is_some (name_of text e) ≡ true) es
  all_named es h = all_from 0 es (sym (position_from-zero nameless es) ∙ h)
