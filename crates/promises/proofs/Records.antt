-- From placed blocks to records, by number.
use Rattle.std.proofs.Common.{◌≡◌, ℕ, ◌<◌, List, [], ◌∷◌, take, sym, refl, ap, ◌∙◌, subst, inl, inr, arith}
use Rattle.std.proofs.lemmas.List.FromFn.{get_or-map-range_with_len}
use Rattle.std.proofs.lemmas.List.{get_or-take}
use Rattle.std.proofs.lemmas.Bool.{cases_lt, eq-eqb, ne_eqb, cond-true, cond-false}
use Rattle.rules.specs.declared.placements.Placement.{Placement}
use Rattle.rules.specs.Trees.{count, blocks, Among, Distinct}
use Rattle.rules.specs.Plans.{Plan, Whole, block_count}
use Rattle.rules.specs.Packing.{Rect, packed}
use Rattle.geometry.specs.Relations.{numbers}
use Rattle.geometry.proofs.Members.{among_map}
use Rattle.geometry.proofs.Once.{among_counted}
use Rattle.geometry.proofs.Standing.{packed_blocks}
use Rattle.promises.specs.Packs.{nowhere, record_of, placements}
use Rattle.promises.specs.Promise.{at, Placed}

-- the record of a placed block
abbrev pub shown : Rect → Placement
shown q = record { x = q.x; y = q.y; width = q.width; height = q.height }

-- the record of a placed block is found by its number, and that of any other number is four zeros
pub found : (ps : List Rect) → Distinct (numbers ps) → (q : Rect) → Among q ps → record_of ps q.block ≡ shown q
found [] d q m = absurd m
found (r ∷ ps) d q (inl e) =
    subst (λ (v : Rect). record_of (r ∷ ps) v.block ≡ shown v) (sym e) (cond-true _ _ _ (eq-eqb r.block r.block refl))
found (r ∷ ps) d q (inr m) =
    let other : r.block ≡ q.block → ⊥ = λ e. d.0 (subst (λ (i : ℕ). Among i (numbers ps)) (sym e) (among_map (λ (v : Rect). v.block) q ps m)) in
    cond-false _ _ _ (ne_eqb r.block q.block other) ∙ found ps d.1 q m

missing : (ps : List Rect) (i : ℕ) → (Among i (numbers ps) → ⊥) → record_of ps i ≡ nowhere
missing [] i n = refl
missing (r ∷ ps) i n = cond-false _ _ _ (ne_eqb r.block i (λ e. n (inl (sym e)))) ∙ missing ps i (λ m. n (inr m))

numbered : (ps : List Rect) (i : ℕ) → Among i (numbers ps) → (q : Rect) × Among q ps × (q.block ≡ i)
numbered [] i m = absurd m
numbered (r ∷ ps) i (inl e) = (r, inl refl, sym e)
numbered (r ∷ ps) i (inr m) = let f = numbered ps i m in (f.0, inr f.1, f.2)

-- each block of the plan has the record that packing gives it
abbrev pub Recorded : Plan → List Placement → Type 0
Recorded p rs = (i : ℕ) → i < block_count p → at rs i ≡ record_of (packed p) i

pub placements_recorded : (p : Plan) → Recorded p (placements p)
placements_recorded p i b = get_or-map-range_with_len (record_of (packed p)) 0 (block_count p) i i _ b (omega arith)

pub recorded : (p : Plan) (rs : List Placement) → take (block_count p) rs ≡ placements p → Recorded p rs
recorded p rs e i b = sym (get_or-take (block_count p) rs i _ b) ∙ ap (λ (l : List Placement). at l i) e ∙ placements_recorded p i b

-- block i as placed, with its record
pub record Standing (p : Plan) (rs : List Placement) (i : ℕ) : Type 0 where
  pub rect : Rect
  pub among : Among rect (packed p)
  pub number : rect.block ≡ i
  pub within : i < block_count p
  pub shows : at rs i ≡ shown rect

module _ (p : Plan) (w : Whole p) (rs : List Placement) (h : Recorded p rs) where
  abbrev pub of_rect : (q : Rect) → Among q (packed p) → Standing p rs q.block
  of_rect q m =
      let b = w.known q.block ((packed_blocks p).only q.block (among_map (λ (v : Rect). v.block) q (packed p) m)) in
      record { rect = q; among = m; number = refl; within = b; shows = h q.block b ∙ found (packed p) ((packed_blocks p).once w) q m }

  pub of_present : (i : ℕ) → 0 < count i p.tree → Standing p rs i
  of_present i c = let f = numbered (packed p) i ((packed_blocks p).all i c) in subst (Standing p rs) f.2 (of_rect f.0 f.1)

  pub of_listed : (i : ℕ) → Among i (blocks p.tree) → Standing p rs i
  of_listed i m = of_present i (among_counted i p.tree m)

  pub of_absent : (i : ℕ) → i < block_count p → count i p.tree ≡ 0 → at rs i ≡ nowhere
  of_absent i b z = h i b ∙ missing (packed p) i (λ m. omega (arith, (packed_blocks p).only i m))

  pub of_placed : (i : ℕ) → i < block_count p → Placed (at rs i) → Standing p rs i
  of_placed i b k = elim (cases_lt 0 (count i p.tree)) [
    | inl c ↦ of_present i c
    | inr c ↦ absurd (omega (arith, k, ap (λ (r : Placement). r.width) (of_absent i b (omega arith))))
  ]
