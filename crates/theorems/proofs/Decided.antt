-- Presence after edits that pass one after the other.
use Rattle.std.proofs.Common.{◌≡◌, ℕ, Bool, true, false, cond, eqb, ltb, ◌⊎◌, List, [], ◌∷◌, Some, None, Option, sym, refl, ap, ◌∙◌, subst, inl, inr}
use Rattle.std.specs.Option.{option_or}
use Rattle.std.proofs.lemmas.Bool.{true≢false, eqb-true}
use Rattle.rules.specs.declared.edits.Edit.{Edit}
use Rattle.rules.specs.declared.edits.Edit.TheVariants.{Turn, Swap, TakeOut, PutIn, Move}
use Rattle.rules.specs.Trees.{count}
use Rattle.rules.specs.Plans.{Plan, Whole, present}
use Rattle.rules.specs.Edits.{edited, edit_refusal}
use Rattle.rules.specs.Book.{performed}
use Rattle.theorems.specs.Presence.{decides, last_of, Passes, PresenceByLast}
use Rattle.theorems.proofs.Passed.{count_after, tests_passed, edited_count, edited_whole}

-- whether a block is present after the edit that decides it, if there is one; turns and swaps never do
abbrev present_after : Option Edit → Bool → Bool
present_after None b = b
present_after (Some (Turn i)) b = true
present_after (Some (Swap i j)) b = true
present_after (Some (TakeOut i)) b = false
present_after (Some (PutIn i j s)) b = true
present_after (Some (Move i j s)) b = true

abbrev decider : ℕ → Edit → Option Edit
decider k e = cond (decides k e) (Some e) None

-- a count that an edit sets to 0 or to 1, or leaves
emptied : (t : Bool) (e : Edit) (c : ℕ) → present_after (Some e) (ltb 0 c) ≡ false → ltb 0 (cond t 0 c) ≡ present_after (cond t (Some e) None) (ltb 0 c)
emptied true e c h = sym h
emptied false e c h = refl

filled : (t : Bool) (e : Edit) (c : ℕ) → present_after (Some e) (ltb 0 c) ≡ true → ltb 0 (cond t 1 c) ≡ present_after (cond t (Some e) None) (ltb 0 c)
filled true e c h = sym h
filled false e c h = refl

count_decided : (e : Edit) (k c : ℕ) → ltb 0 (count_after e k c) ≡ present_after (decider k e) (ltb 0 c)
count_decided (Turn i) k c = refl
count_decided (Swap i j) k c = refl
count_decided (TakeOut i) k c = emptied (eqb i k) (TakeOut i) c refl
count_decided (PutIn i j s) k c = filled (eqb i k) (PutIn i j s) c refl
count_decided (Move i j s) k c = filled (eqb i k) (Move i j s) c refl

edited_present : (p : Plan) (e : Edit) (k : ℕ) → Whole p → edit_refusal p e ≡ None → present (edited e p) k ≡ present_after (decider k e) (present p k)
unfolding present
edited_present p e k w h = ap (ltb 0) (edited_count p w e k (tests_passed p e h)) ∙ count_decided e k (count k p.tree)

-- of two edits the later one decides
later : (a b : Option Edit) (t : Bool) → present_after (option_or a b) t ≡ present_after a (present_after b t)
later None b t = refl
later (Some (Turn i)) b t = refl
later (Some (Swap i j)) b t = refl
later (Some (TakeOut i)) b t = refl
later (Some (PutIn i j s)) b t = refl
later (Some (Move i j s)) b t = refl

performed_present : (p : Plan) (es : List Edit) (k : ℕ) → Whole p → Passes p es → present (performed es p) k ≡ present_after (last_of k es) (present p k)
performed_present p [] k w h = refl
performed_present p (e ∷ es) k w h =
    performed_present (edited e p) es k (edited_whole p w e (tests_passed p e h.0)) h.1
    ∙ ap (present_after (last_of k es)) (edited_present p e k w h.0) ∙ sym (later (last_of k es) (decider k e) (present p k))

-- the last edit of block k is one that decides it
from_either : (a b : Option Edit) (e : Edit) → option_or a b ≡ Some e → (a ≡ Some e) ⊎ (b ≡ Some e)
from_either None b e h = inr h
from_either (Some d) b e h = inl h

from_decider : (t : Bool) (d e : Edit) → cond t (Some d) None ≡ Some e → (t ≡ true) × (d ≡ e)
from_decider true d e h = (refl, cc)
from_decider false d e h = cc

last_decides : (k : ℕ) (es : List Edit) (e : Edit) → last_of k es ≡ Some e → decides k e ≡ true
last_decides k [] e h = cc
last_decides k (d ∷ es) e h = elim (from_either (last_of k es) (decider k d) e h) [
  | inl a ↦ last_decides k es e a
  | inr b ↦ let f = from_decider (decides k d) d e b in subst (λ x. decides k x ≡ true) f.1 f.0
]

out_last : (o : Option Edit) → present_after o true ≡ false → (i : ℕ) × (o ≡ Some (TakeOut i))
out_last None h = absurd (true≢false h)
out_last (Some (Turn i)) h = absurd (true≢false h)
out_last (Some (Swap i j)) h = absurd (true≢false h)
out_last (Some (TakeOut i)) h = (i, refl)
out_last (Some (PutIn i j s)) h = absurd (true≢false h)
out_last (Some (Move i j s)) h = absurd (true≢false h)

taken_out_last : (k : ℕ) (es : List Edit) → present_after (last_of k es) true ≡ false → last_of k es ≡ Some (TakeOut k)
taken_out_last k es h =
    let o = out_last (last_of k es) h in
    o.1 ∙ ap (λ i. Some (TakeOut i)) (eqb-true o.0 k (last_decides k es (TakeOut o.0) o.1))

pub presence_by_last : PresenceByLast
presence_by_last p es k full h within =
    let e : present (performed es p) k ≡ present_after (last_of k es) true
    = performed_present p es k full.whole h ∙ ap (present_after (last_of k es)) (full.all_present k within) in
    record { absent = λ a. taken_out_last k es (sym e ∙ a); taken_out = λ l. e ∙ ap (λ o. present_after o true) l }
