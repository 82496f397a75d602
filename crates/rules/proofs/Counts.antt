-- How often a block stands in a tree, before and after each edit.
use Rattle.std.proofs.Common.{◌≡◌, ℕ, suc, ◌+◌, ◌<◌, ◌≤◌, Bool, true, false, cond, eqb, ◌≢◌, sym, refl, ap, ◌∙◌, inl, inr, arith}
use Rattle.std.proofs.lemmas.Bool.{cases_eq, cases_lt, eq-eqb, ne_eqb, cond-true, cond-false}
use Rattle.rules.specs.declared.edits.Side.{Side}
use Rattle.rules.specs.declared.edits.Side.TheVariants.{Left, Right}
use Rattle.rules.specs.Trees.{Tree, empty, node, count, size, join, take_out, left_under, right_under, hang, put_in}

pub no_count : (k : ℕ) → count k empty ≡ 0
unfolding count
no_count k = refl

pub size_node : (k : ℕ) (x y : Tree) → size (node k x y) ≡ suc (size x + size y)
unfolding size
size_node k x y = refl

-- k's own count in a node of k
pub own : (k : ℕ) (x y : Tree) → count k (node k x y) ≡ 1 + (count k x + count k y)
unfolding count
own k x y = let e : ◌≡◌ {A = ℕ} (cond (eqb k k) 1 0) 1 = cond-true _ _ _ (eq-eqb k k refl) in omega arith

-- another block's
pub others : (m k : ℕ) (x y : Tree) → m ≢ k → count m (node k x y) ≡ count m x + count m y
unfolding count
others m k x y d = let e : ◌≡◌ {A = ℕ} (cond (eqb m k) 1 0) 0 = cond-false _ _ _ (ne_eqb m k d) in omega arith

pub parts_le : (m k : ℕ) (x y : Tree) → count m x + count m y ≤ count m (node k x y)
unfolding count
parts_le m k x y = omega arith

pub not_in : (k m : ℕ) (a : Tree) → count k a ≡ 0 → 0 < count m a → m ≢ k
not_in k m a z h p = omega (arith, ap (λ q. count q a) p)

pub flag_le : (b : Bool) → cond b 1 0 ≤ 1
flag_le true = omega arith
flag_le false = omega arith

-- a node over subtrees of which one or both have changed
pub same_node : (m k : ℕ) (a c a' c' : Tree) → count m a' ≡ count m a → count m c' ≡ count m c → count m (node k a' c') ≡ count m (node k a c)
unfolding count
same_node m k a c a' c' p q = omega arith

more_node : (m k : ℕ) (a c a' c' : Tree) (d : ℕ) → count m a' + count m c' ≡ (count m a + count m c) + d → count m (node k a' c') ≡ count m (node k a c) + d
unfolding count
more_node m k a c a' c' d e = omega arith

pub join_count : (m : ℕ) (l r : Tree) → count m (join l r) ≡ count m l + count m r
unfolding join count
join_count m l empty = omega arith
join_count m empty (node j x y) = omega arith
join_count m (node i a b) (node j x y) = omega (arith, join_count m x y)

pub take_out_others : (m i : ℕ) (t : Tree) → (m ≡ i → ⊥) → count m (take_out i t) ≡ count m t
unfolding take_out
take_out_others m i empty d = refl
take_out_others m i (node k a c) d = elim (cases_eq k i) [
  | inl p ↦
      ap (count m) (cond-true _ _ _ (eq-eqb k i p)) ∙ join_count m a c ∙ sym (others m k a c (λ q. d (q ∙ p)))
  | inr e ↦
      ap (count m) (cond-false _ _ _ (ne_eqb k i e)) ∙ same_node m k a c (take_out i a) (take_out i c) (take_out_others m i a d) (take_out_others m i c d)
]

pub take_out_own : (i : ℕ) (t : Tree) → count i t ≤ 1 → count i (take_out i t) ≡ 0
unfolding take_out
take_out_own i empty h = no_count i
take_out_own i (node k a c) h = elim (cases_eq k i) [
  | inl p ↦
      ap (count i) (cond-true _ _ _ (eq-eqb k i p)) ∙ join_count i a c ∙ omega (arith, own k a c, ap (λ q. count q (node k a c)) p, ap (λ q. count q a) p, ap (λ q. count q c) p)
  | inr e ↦
      ap (count i) (cond-false _ _ _ (ne_eqb k i e)) ∙ others i k (take_out i a) (take_out i c) (λ q. e (sym q))
      ∙ omega (arith, take_out_own i a (omega (arith, parts_le i k a c)), take_out_own i c (omega (arith, parts_le i k a c)))
]

under_count : (s : Side) (m i : ℕ) (a c : Tree) → count m (left_under s i a) + count m (right_under s i c) ≡ (count m a + count m c) + count m (node i empty empty)
unfolding count
under_count Left m i a c = omega arith
under_count Right m i a c = omega arith

pub hang_none : (s : Side) (i j : ℕ) (t : Tree) → count j t ≡ 0 → hang s i j t ≡ t
unfolding hang
hang_none s i j empty z = refl
hang_none s i j (node k a c) z =
    let d : k ≡ j → ⊥ = λ p. omega (arith, own k a c, ap (λ q. count q (node k a c)) p) in
    let ea = hang_none s i j a (omega (arith, parts_le j k a c)) in
    let ec = hang_none s i j c (omega (arith, parts_le j k a c)) in
    cond-false _ _ _ (ne_eqb k j d) ∙ cc

pub hang_count : (s : Side) (i j m : ℕ) (t : Tree) → count j t ≡ 1 → count m (hang s i j t) ≡ count m t + count m (node i empty empty)
unfolding hang
hang_count s i j m empty e = absurd (omega (arith, no_count j))
hang_count s i j m (node k a c) e = elim (cases_eq k j) [
  | inl p ↦
      ap (count m) (cond-true _ _ _ (eq-eqb k j p)) ∙ more_node m k a c (left_under s i a) (right_under s i c) _ (under_count s m i a c)
  | inr d ↦
      let o = others j k a c (λ q. d (sym q)) in
      let r : count m (hang s i j a) + count m (hang s i j c) ≡ (count m a + count m c) + count m (node i empty empty)
      = elim (cases_lt 0 (count j a)) [
        | inl h ↦ omega (arith, hang_count s i j m a (omega arith), ap (count m) (hang_none s i j c (omega arith)))
        | inr h ↦ omega (arith, hang_count s i j m c (omega arith), ap (count m) (hang_none s i j a (omega arith)))
      ] in
      ap (count m) (cond-false _ _ _ (ne_eqb k j d)) ∙ more_node m k a c (hang s i j a) (hang s i j c) _ r
]

pub put_in_hang : (i j : ℕ) (s : Side) (t : Tree) → 0 < count j t → put_in i j s t ≡ hang s i j t
unfolding put_in
put_in_hang i j s empty h = absurd (omega (arith, no_count j))
put_in_hang i j s (node k a c) h = refl
