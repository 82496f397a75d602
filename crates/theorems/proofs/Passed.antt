-- What the tests of an edit say where they pass, and what the edit then leaves.
use Rattle.std.proofs.Common.{◌≡◌, ℕ, ◌+◌, ◌<◌, ◌≤◌, true, false, cond, not, eqb, leb, ◌≢◌, ◌⊎◌, None, sym, refl, ap, ◌∙◌, inl, inr, arith, length-set}
use Rattle.std.proofs.lemmas.Bool.{cases_eq, eqb-false, leb-false, ltb-true, ltb-false, eq-eqb, ne_eqb, not-false, cond-true, cond-false}
use Rattle.std.proofs.lemmas.Bool.Decides.{nat_tests}
use Rattle.rules.specs.declared.edits.Side.{Side}
use Rattle.rules.specs.declared.edits.Edit.{Edit}
use Rattle.rules.specs.declared.edits.Edit.TheVariants.{Turn, Swap, TakeOut, PutIn, Move}
use Rattle.rules.specs.Trees.{Tree, empty, node, count, swap, take_out, put_in}
use Rattle.rules.specs.Plans.{Plan, Whole, block_count, present, bare, size_at}
use Rattle.rules.specs.Edits.{edited, edit_refusal, turned, absent_refusal, pair_refusal, put_refusal}
use Rattle.rules.proofs.Counts.{no_count, own, others, take_out_own, take_out_others, hang_count}
use Rattle.rules.proofs.Spelling.{swap_count}
use Rattle.theorems.proofs.NotRefused.{passed}

-- a block that is in the plan and present
pub record There (p : Plan) (i : ℕ) : Type 0 where
  pub within : i < block_count p
  pub stands : 0 < count i p.tree

present_stands : (p : Plan) (i : ℕ) → present p i ≡ true → 0 < count i p.tree
unfolding present
present_stands p i e = ltb-true _ _ e

there : (p : Plan) (i : ℕ) → leb (block_count p) i ≡ false → not (present p i) ≡ false → There p i
there p i a b = record { within = leb-false _ _ a; stands = present_stands p i (not-false _ b) }

pub absent_passed : (p : Plan) (i : ℕ) → absent_refusal p i ≡ None → There p i
absent_passed p i e =
    let a = passed _ _ _ e in
    let b = passed _ _ _ a.1 in there p i a.0 b.0

pub pair_passed : (p : Plan) (i j : ℕ) → pair_refusal p i j ≡ None → There p i × There p j × (i ≢ j)
pair_passed p i j e =
    let a = passed _ _ _ e in
    let b = passed _ _ _ a.1 in
    let c = passed _ _ _ b.1 in
    let d = passed _ _ _ c.1 in
    let f = passed _ _ _ d.1 in
    (there p i a.0 d.0, there p j b.0 f.0, eqb-false i j c.0)

-- a block to put in is absent, and the other present unless the tree is empty
pub record Room (p : Plan) (i j : ℕ) : Type 0 where
  pub within : i < block_count p
  pub out : count i p.tree ≡ 0
  pub under : (p.tree ≡ empty) ⊎ There p j

pub absent_count : (p : Plan) (i : ℕ) → present p i ≡ false → count i p.tree ≡ 0
unfolding present
absent_count p i e = omega (arith, ltb-false 0 (count i p.tree) e)

under_passed : (p : Plan) (j : ℕ) (t : Tree) → cond (bare t) None (absent_refusal p j) ≡ None → (t ≡ empty) ⊎ There p j
unfolding bare
under_passed p j empty e = inl refl
under_passed p j (node k l r) e = inr (absent_passed p j e)

pub put_passed : (p : Plan) (i j : ℕ) → put_refusal p i j ≡ None → Room p i j
put_passed p i j e =
    let a = passed _ _ _ e in
    let b = passed _ _ _ a.1 in
    record { within = leb-false _ _ a.0; out = absent_count p i b.0; under = under_passed p j p.tree b.1 }

-- what each edit's tests say where they pass
abbrev pub Passed : Plan → Edit → Type 0
Passed p (Turn i) = There p i
Passed p (Swap i j) = There p i × There p j × (i ≢ j)
Passed p (TakeOut i) = There p i
Passed p (PutIn i j s) = Room p i j
Passed p (Move i j s) = There p i × There p j × (i ≢ j)

pub tests_passed : (p : Plan) (e : Edit) → edit_refusal p e ≡ None → Passed p e
unfolding edit_refusal
tests_passed p (Turn i) e = absent_passed p i e
tests_passed p (Swap i j) e = pair_passed p i j e
tests_passed p (TakeOut i) e = absent_passed p i e
tests_passed p (PutIn i j s) e = put_passed p i j e
tests_passed p (Move i j s) e = pair_passed p i j e

-- no edit changes the number of blocks
pub same_block_count : (p : Plan) (e : Edit) → block_count (edited e p) ≡ block_count p
unfolding block_count edited
same_block_count p (Turn i) = length-set p.sizes i (turned (size_at p.sizes i))
same_block_count p (Swap i j) = refl
same_block_count p (TakeOut i) = refl
same_block_count p (PutIn i j s) = refl
same_block_count p (Move i j s) = refl

-- how often block k stands in the tree after an edit, where it stood there c times
abbrev pub count_after : Edit → ℕ → ℕ → ℕ
count_after (Turn i) k c = c
count_after (Swap i j) k c = c
count_after (TakeOut i) k c = cond (eqb i k) 0 c
count_after (PutIn i j s) k c = cond (eqb i k) 1 c
count_after (Move i j s) k c = cond (eqb i k) 1 c

swapped : (i j k : ℕ) (t : Tree) → count i t ≡ count j t → count k (swap i j t) ≡ count k t
swapped i j k t e = swap_count i j k t ∙ elim (cases_eq k i) [
  | inl p ↦ ap (λ m. count m t) (cond-true _ _ _ (eq-eqb k i p)) ∙ sym e ∙ ap (λ m. count m t) (sym p)
  | inr d ↦ ap (λ m. count m t) (cond-false _ _ _ (ne_eqb k i d)) ∙ elim (cases_eq k j) [
    | inl p ↦ ap (λ m. count m t) (cond-true _ _ _ (eq-eqb k j p)) ∙ e ∙ ap (λ m. count m t) (sym p)
    | inr f ↦ ap (λ m. count m t) (cond-false _ _ _ (ne_eqb k j f))
  ]
]

taken : (i k : ℕ) (t : Tree) → count i t ≤ 1 → count k (take_out i t) ≡ cond (eqb i k) 0 (count k t)
taken i k t h = elim (cases_eq i k) [
  | inl p ↦ sym (ap (λ m. count m (take_out i t)) p) ∙ take_out_own i t h ∙ sym (cond-true _ _ _ (eq-eqb i k p))
  | inr d ↦ take_out_others k i t (λ q. d (sym q)) ∙ sym (cond-false _ _ _ (ne_eqb i k d))
]

-- one block more
put_count : (i j k : ℕ) (s : Side) (t : Tree) → (t ≡ empty) ⊎ (count j t ≡ 1) → count k (put_in i j s t) ≡ count k t + count k (node i empty empty)
unfolding put_in
put_count i j k s empty h = omega (arith, no_count k)
put_count i j k s (node m l r) (inl e) = cc
put_count i j k s (node m l r) (inr e) = hang_count s i j k (node m l r) e

put : (i j k : ℕ) (s : Side) (t : Tree) → count i t ≡ 0 → (t ≡ empty) ⊎ (count j t ≡ 1) → count k (put_in i j s t) ≡ cond (eqb i k) 1 (count k t)
put i j k s t z h = elim (cases_eq i k) [
  | inl p ↦
      put_count i j k s t h ∙ omega (arith, own i empty empty, no_count i, ap (λ m. count m t) p, ap (λ m. count m (node i empty empty)) p)
      ∙ sym (cond-true _ _ _ (eq-eqb i k p))
  | inr d ↦
      put_count i j k s t h ∙ omega (arith, others k i empty empty (λ q. d (sym q)), no_count k) ∙ sym (cond-false _ _ _ (ne_eqb i k d))
]

module _ (p : Plan) (w : Whole p) where
  once_there : (i : ℕ) → There p i → count i p.tree ≡ 1
  once_there i h = omega (arith, w.once i, h.stands)

  -- what stands in the tree after an edit that passes
  pub edited_count : (e : Edit) (k : ℕ) → Passed p e → count k (edited e p).tree ≡ count_after e k (count k p.tree)
  unfolding edited
  edited_count (Turn i) k h = refl
  edited_count (Swap i j) k h = swapped i j k p.tree (once_there i h.0 ∙ sym (once_there j h.1))
  edited_count (TakeOut i) k h = taken i k p.tree (w.once i)
  edited_count (PutIn i j s) k h =
      put i j k s p.tree h.out (elim h.under [ inl e ↦ inl e | inr t ↦ inr (once_there j t) ])
  edited_count (Move i j s) k h =
      let t = take_out i p.tree in
      let own : count i t ≡ 0 = take_out_own i p.tree (w.once i) in
      let other : count j t ≡ 1 = take_out_others j i p.tree (λ q. h.2 (sym q)) ∙ once_there j h.1 in
      put i j k s t own (inr other) ∙ elim (cases_eq i k) [
        | inl q ↦ cond-true _ _ _ (eq-eqb i k q) ∙ sym (cond-true _ _ _ (eq-eqb i k q))
        | inr d ↦
            cond-false _ _ _ (ne_eqb i k d) ∙ take_out_others k i p.tree (λ q. d (sym q)) ∙ sym (cond-false _ _ _ (ne_eqb i k d))
      ]

  after_once : (e : Edit) (k : ℕ) → count_after e k (count k p.tree) ≤ 1
  after_once (Turn i) k = w.once k
  after_once (Swap i j) k = w.once k
  after_once (TakeOut i) k = let h = w.once k in grind (arith, nat_tests)
  after_once (PutIn i j s) k = let h = w.once k in grind (arith, nat_tests)
  after_once (Move i j s) k = let h = w.once k in grind (arith, nat_tests)

  -- a number is in the tree after an edit only if it was there, or is the block put in
  or_put_in : (i k : ℕ) → i < block_count p → 0 < cond (eqb i k) 1 (count k p.tree) → k < block_count p
  or_put_in i k b h = elim (cases_eq i k) [
    | inl q ↦ omega (arith, q, b)
    | inr d ↦ w.known k (omega (arith, h, cond-false {A = ℕ} (eqb i k) 1 (count k p.tree) (ne_eqb i k d)))
  ]

  after_known : (e : Edit) (k : ℕ) → Passed p e → 0 < count_after e k (count k p.tree) → k < block_count p
  after_known (Turn i) k h c = w.known k c
  after_known (Swap i j) k h c = w.known k c
  after_known (TakeOut i) k h c = w.known k (grind (arith, nat_tests))
  after_known (PutIn i j s) k h c = or_put_in i k h.within c
  after_known (Move i j s) k h c = or_put_in i k h.0.within c

  pub edited_whole : (e : Edit) → Passed p e → Whole (edited e p)
  edited_whole e h = record {
    once = λ k. omega (arith, edited_count e k h, after_once e k);
    known = λ k c. omega (arith, same_block_count p e, after_known e k h (omega (arith, edited_count e k h)));
  }
