-- The steps of `lowered`.
use Rattle.std.proofs.Common.{◌≡◌, ℕ, zero, suc, ◌<◌, ◌≤◌, List, length, set, refl, ◌∙◌}
use Rattle.std.proofs.lemmas.Bool.{eq-eqb, ne_eqb, lt-ltb, le-ltb, cond-true, cond-false}
use Rattle.table.specs.declared.blocks.Block.{Block}
use Rattle.table.specs.Tables.{at, linked, lowered}

pub lowered_out : (n l j : ℕ) (bs : List Block) → length bs ≤ j → lowered n l j bs ≡ bs
unfolding lowered
lowered_out zero l j bs h = refl
lowered_out (suc f) l j bs h = cond-false _ _ _ (le-ltb j (length bs) h)

pub lowered_none : (n l j : ℕ) (bs : List Block) → n ≡ 0 → lowered n l j bs ≡ bs
unfolding lowered
lowered_none n l j bs e = rw e

module _ (n f l j : ℕ) (bs : List Block) (e : n ≡ suc f) (h : j < length bs) where
  pub lowered_last : (at bs j).children.right ≡ 65535 → lowered n l j bs ≡ set bs j (linked l (at bs j).children.left (at bs j))
  unfolding lowered
  lowered_last r = rw e (cond-true _ _ _ (lt-ltb j (length bs) h) ∙ cond-true _ _ _ (eq-eqb _ _ r))

  pub lowered_stop : ((at bs j).children.right ≡ 65535 → ⊥) → (at bs j).children.left ≡ 65535 → lowered n l j bs ≡ set bs j (linked l (at bs j).children.right (at bs j))
  unfolding lowered
  lowered_stop r x = rw e (cond-true _ _ _ (lt-ltb j (length bs) h) ∙ cond-false _ _ _ (ne_eqb _ _ r) ∙ cond-true _ _ _ (eq-eqb _ _ x))

  pub lowered_more : ((at bs j).children.right ≡ 65535 → ⊥) → ((at bs j).children.left ≡ 65535 → ⊥)
      → lowered n l j bs ≡ lowered f (at bs j).children.left (at bs j).children.right (set bs j (linked l (at bs j).children.right (at bs j)))
  unfolding lowered
  lowered_more r x = rw e (cond-true _ _ _ (lt-ltb j (length bs) h) ∙ cond-false _ _ _ (ne_eqb _ _ r) ∙ cond-false _ _ _ (ne_eqb _ _ x))
