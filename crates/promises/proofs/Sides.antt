-- The plans of a book: whole, as many blocks as were loaded, and every side above 0.
use Rattle.std.proofs.Common.{◌≡◌, ℕ, ◌<◌, true, ◌≢◌, List, [], ◌∷◌, Some, None, Option, sym, refl, ap, ◌∙◌, subst, inl, inr, arith}
use Rattle.std.proofs.lemmas.List.{get_or-set_same, get_or-set_other}
use Rattle.std.proofs.lemmas.Bool.{cases_eq, and_parts, leb-true}
use Rattle.rules.specs.declared.blocks.Size.{Size}
use Rattle.rules.specs.declared.edits.Edit.{Edit}
use Rattle.rules.specs.declared.edits.Edit.TheVariants.{Turn, Swap, TakeOut, PutIn, Move}
use Rattle.rules.specs.declared.refusals.Refusal.{Refusal}
use Rattle.rules.specs.Plans.{Plan, Whole, new_plan, block_count, size_at, size_fits}
use Rattle.rules.specs.Edits.{edited, edit_refusal, turned}
use Rattle.rules.specs.Loads.{Given, load_refusal, given_plan}
use Rattle.rules.specs.Book.{Call, load, test, begin, keep, undo, pack, Book, new_book, performed, book_plan, in_force, after_load, after_begin, fed, book_from, book, state_after, out_of_turn}
use Rattle.loading.proofs.Accepting.{accepted_tree}
use Rattle.theorems.specs.Presence.{Passes}
use Rattle.theorems.proofs.Passed.{same_block_count, tests_passed, edited_whole}
use Rattle.theorems.proofs.Sounding.{books_are_sound}

-- both sides are above 0
abbrev pub Solid : Size → Type 0
Solid s = (0 < s.width) × (0 < s.height)

-- each block's are
abbrev pub Sided : Plan → Type 0
Sided p = (i : ℕ) → i < block_count p → Solid (size_at p.sizes i)

fits_solid : (s : Size) → size_fits s ≡ true → Solid s
fits_solid s e =
    let a = and_parts _ _ e in
    let w = leb-true 1 s.width (and_parts _ _ a.0).0 in
    let h = leb-true 1 s.height (and_parts _ _ a.1).0 in
    (omega arith, omega arith)

load_sided : (g : Given) → load_refusal g ≡ None → Sided (given_plan g)
unfolding given_plan block_count
load_sided g e i b = fits_solid _ ((accepted_tree g e).sizes_fit i b)

turned_sided : (p : Plan) (i : ℕ) → Sided p → Sided (edited (Turn i) p)
unfolding edited block_count
turned_sided p i h k b =
    let old : k < block_count p = omega (arith, same_block_count p (Turn i)) in
    elim (cases_eq k i) [
      | inl e ↦
          let s = h k old in
          subst Solid (sym (ap (λ m. size_at (edited (Turn i) p).sizes m) e ∙ get_or-set_same p.sizes i (turned (size_at p.sizes i)) _ (omega arith)))
          (subst (λ m. Solid (turned (size_at p.sizes m))) e (s.1, s.0))
      | inr d ↦ subst Solid (sym (get_or-set_other p.sizes i k (turned (size_at p.sizes i)) _ d)) (h k old)
    ]

-- a turn exchanges the sides of its block, the other edits leave all sizes
edited_sided : (p : Plan) (e : Edit) → Sided p → Sided (edited e p)
unfolding edited block_count
edited_sided p (Turn i) h = turned_sided p i h
edited_sided p (Swap i j) h = h
edited_sided p (TakeOut i) h = h
edited_sided p (PutIn i j s) h = h
edited_sided p (Move i j s) h = h

performed_sided : (es : List Edit) (p : Plan) → Sided p → Sided (performed es p)
performed_sided [] p h = h
performed_sided (e ∷ es) p h = performed_sided es (edited e p) (edited_sided p e h)

performed_count : (es : List Edit) (p : Plan) → block_count (performed es p) ≡ block_count p
performed_count [] p = refl
performed_count (e ∷ es) p = performed_count es (edited e p) ∙ same_block_count p e

performed_whole : (es : List Edit) (p : Plan) → Whole p → Passes p es → Whole (performed es p)
performed_whole [] p w h = w
performed_whole (e ∷ es) p w h = performed_whole es (edited e p) (edited_whole p w e (tests_passed p e h.0)) h.1

loaded_sided : (r : Option Refusal) (g : Given) (b : Book) → load_refusal g ≡ r → Sided b.loaded → Sided (after_load r g b).loaded
loaded_sided None g b e h = load_sided g e
loaded_sided (Some r) g b e h = h

begun_sided : (r : Option Refusal) (e : Edit) (b : Book) → Sided b.loaded → Sided (after_begin r e b).loaded
begun_sided None e b h = h
begun_sided (Some r) e b h = h

fed_sided : (b : Book) (c : Call) → Sided b.loaded → Sided (fed b c).loaded
fed_sided b (load g) h = loaded_sided (load_refusal g) g b refl h
fed_sided b (test e) h = h
fed_sided b (begin e) h = begun_sided (edit_refusal (book_plan b) e) e b h
fed_sided b keep h = h
fed_sided b undo h = h
fed_sided b pack h = h

from_sided : (b : Book) (cs : List Call) → Sided b.loaded → Sided (book_from b cs).loaded
from_sided b [] h = h
from_sided b (c ∷ cs) h = from_sided (fed b c) cs (fed_sided b c h)

new_sided : Sided new_plan
unfolding block_count
new_sided i b = absurd (omega arith)

module _ (cs : List Call) where
  pub book_sided : Sided (book_plan (book cs))
  book_sided = performed_sided (in_force (book cs)) (book cs).loaded (from_sided new_book cs new_sided)

  pub book_count : block_count (book_plan (book cs)) ≡ block_count (book cs).loaded
  book_count = performed_count (in_force (book cs)) (book cs).loaded

  pub book_whole : state_after cs ≢ out_of_turn → Whole (book_plan (book cs))
  book_whole ok = let s = books_are_sound cs ok in performed_whole (in_force (book cs)) (book cs).loaded s.full.whole s.passes
