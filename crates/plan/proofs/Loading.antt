-- The rows of an accepted load hold the plan that was given.
use Rattle.std.proofs.Common.{◌≡◌, ℕ, suc, ◌<◌, true, cond, ltb, List, [], ◌∷◌, map, length, get_or, Bor, None, sym, refl, ap, ◌∙◌, subst, inl, inr, arith}
use Rattle.std.proofs.lemmas.Bool.{cases_lt, lt-ltb, le-ltb, and_from, cond-false}
use Rattle.std.proofs.lemmas.List.{length-map, get_or-map, get_or_past, ext_get_or}
use Rattle.std.proofs.lemmas.Simd.{map-map}
use Rattle.std.proofs.lemmas.Slice.Zip.{length-zip, get_or-zip}
use Rattle.std.specs.List.{zip}
use Rattle.rules.specs.declared.blocks.Size.{Size}
use Rattle.rules.specs.declared.blocks.Children.{Children}
use Rattle.rules.specs.declared.blocks.Letter.TheVariants.{Free}
use Rattle.rules.specs.Trees.{count}
use Rattle.rules.specs.Links.{left_of, right_of, tree_of, Spells}
use Rattle.rules.specs.Plans.{size_at, size_fits}
use Rattle.rules.specs.Loads.{Given, load_refusal, given_plan, letter_or_free}
use Rattle.rules.proofs.Spelling.{frame}
use Rattle.loading.proofs.Accepting.{Accepted, accepted_tree}
use Rattle.table.specs.declared.blocks.Block.{Block}
use Rattle.table.specs.Tables.{at, blank, lefts, rights, Holds}
use Rattle.plan.specs.Sound.{sizes_fit, plan_of}
use Rattle.plan.specs.Rows.{loaded_row, loaded_rows}
use Rattle.plan.proofs.Sounds.{sound, tree_is, plan_same}
use Rattle.plan.proofs.Changes.{Done}

-- the rows of pairs that stand behind references
pub rows_of : (ps : List ((Bor Size × Bor ℕ) × Bor Children)) (qs : List ((Size × ℕ) × Children)) → map (λ p. ((p.0.0.now, p.0.1.now), p.1.now)) ps ≡ qs
    → map (λ p. loaded_row p.0.0.now p.0.1.now p.1.now) ps ≡ map (λ p. loaded_row p.0.0 p.0.1 p.1) qs
rows_of ps qs e = sym (map-map _ _ ps) ∙ ap (map (λ (p : (Size × ℕ) × Children). loaded_row p.0.0 p.0.1 p.1)) e

each_fits : (ss : List Size) → ((i : ℕ) → i < length ss → size_fits (size_at ss i) ≡ true) → sizes_fit ss ≡ true
unfolding sizes_fit
each_fits [] h = refl
each_fits (s ∷ ss) h = and_from (size_fits s) (sizes_fit ss) (h 0 (omega arith)) (each_fits ss (λ i l. h (suc i) (omega arith)))

module _ (g : Given) (a : Accepted g) where
  abbrev rows : List Block
  rows = loaded_rows g.sizes g.letters g.children

  abbrev pairs : List ((Size × ℕ) × Children)
  pairs = zip (zip g.sizes g.letters) g.children

  pairs_long : length pairs ≡ length g.sizes
  pairs_long = omega (arith, length-zip (zip g.sizes g.letters) g.children, length-zip g.sizes g.letters, a.letters_long, a.children_long)

  rows_long : length rows ≡ length g.sizes
  rows_long = length-map pairs _ ∙ pairs_long

  at_row : (k : ℕ) → k < length g.sizes
      → at rows k ≡ loaded_row (size_at g.sizes k) (get_or g.letters k 0) (get_or g.children k (record { left = 0; right = 0 }))
  at_row k h =
      let d : (Size × ℕ) × Children = ((record { width = 0; height = 0 }, 0), record { left = 0; right = 0 }) in
      let letters : k < length g.letters = omega (arith, a.letters_long) in
      let children : k < length g.children = omega (arith, a.children_long) in
      let both : k < length (zip g.sizes g.letters) = omega (arith, length-zip g.sizes g.letters) in
      get_or-map (λ (p : (Size × ℕ) × Children). loaded_row p.0.0 p.0.1 p.1) pairs k d blank (omega (arith, pairs_long))
      ∙ ap (λ (p : (Size × ℕ) × Children). loaded_row p.0.0 p.0.1 p.1) (get_or-zip (zip g.sizes g.letters) g.children k d both children)
      ∙ ap (λ (p : Size × ℕ). loaded_row p.0 p.1 (get_or g.children k d.1)) (get_or-zip g.sizes g.letters k d.0 h letters)

  row_present : (k : ℕ) → (at rows k).present ≡ ltb k (length g.children)
  row_present k =
      let c = a.children_long in
      elim (cases_lt k (length g.sizes)) [
        | inl h ↦ ap (λ b. b.present) (at_row k h) ∙ sym (lt-ltb k (length g.children) (omega arith))
        | inr h ↦ ap (λ b. b.present) (get_or_past rows k blank (omega (arith, rows_long))) ∙ sym (le-ltb k (length g.children) (omega arith))
      ]

  counted_within : (k : ℕ) → 0 < count k (tree_of g.children g.root) → k < length g.sizes
  counted_within k p =
      let c = a.children_long in
      elim (cases_lt k (length g.sizes)) [
        | inl h ↦ h
        | inr h ↦ absurd (omega (arith, a.counted k, cond-false {A = ℕ} (ltb k (length g.children)) 1 0 (le-ltb k (length g.children) (omega arith))))
      ]

  rows_hold : Holds rows g.root (tree_of g.children g.root)
  rows_hold =
      let f = a.few in
      record {
        few = omega (arith, rows_long);
        spelt = subst (λ m. Spells (lefts rows) (rights rows) m g.root (tree_of g.children g.root)) (a.children_long ∙ sym rows_long)
            (frame (left_of g.children) (right_of g.children) (lefts rows) (rights rows) (length g.children) g.root (tree_of g.children g.root)
            (λ k p. let e = at_row k (counted_within k p) in (ap (λ b. b.children.left) e, ap (λ b. b.children.right) e)) a.spelt);
        once = λ k. a.counted k ∙ ap {B = ℕ} (λ b. cond b 1 0) (sym (row_present k));
      }

  rows_sizes : map (λ b. b.size) rows ≡ g.sizes
  rows_sizes = ext_get_or (record { width = 0; height = 0 }) (map (λ b. b.size) rows) g.sizes (length-map rows (λ b. b.size) ∙ rows_long)
      (λ k l.
      let h : k < length g.sizes = omega (arith, length-map rows (λ b. b.size), rows_long) in
      get_or-map (λ b. b.size) rows k blank (record { width = 0; height = 0 }) (omega (arith, rows_long)) ∙ ap (λ b. b.size) (at_row k h))

  rows_letters : map (λ b. b.letter) rows ≡ map letter_or_free g.letters
  rows_letters =
      let c = a.letters_long in
      ext_get_or Free (map (λ b. b.letter) rows) (map letter_or_free g.letters) (length-map rows (λ b. b.letter) ∙ rows_long ∙ sym c ∙ sym (length-map g.letters letter_or_free))
      (λ k l.
      let h : k < length g.sizes = omega (arith, length-map rows (λ b. b.letter), rows_long) in
      get_or-map (λ b. b.letter) rows k blank Free (omega (arith, rows_long)) ∙ ap (λ b. b.letter) (at_row k h) ∙ sym (get_or-map letter_or_free g.letters k 0 Free (omega arith)))

  rows_done : Done (given_plan g) rows g.root
  unfolding given_plan plan_of
  rows_done = record {
    sound = sound rows_hold;
    fit = ap sizes_fit rows_sizes ∙ each_fits g.sizes a.sizes_fit;
    plan = plan_same (plan_of rows g.root) (given_plan g) rows_sizes rows_letters (tree_is rows_hold);
  }

-- a table filled from an accepted load
pub after_load : (g : Given) (bs : List Block) (root : ℕ) → load_refusal g ≡ None → bs ≡ loaded_rows g.sizes g.letters g.children → root ≡ g.root
    → Done (given_plan g) bs root
after_load g bs root e p q =
    subst (λ x. Done (given_plan g) x root) (sym p) (subst (λ x. Done (given_plan g) (rows g (accepted_tree g e)) x) (sym q) (rows_done g (accepted_tree g e)))
