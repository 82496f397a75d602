-- The tree that links spell: the test and the relation, that there is one such tree only, and what keeps it.
use Rattle.std.proofs.Common.{◌≡◌, ℕ, zero, suc, ◌+◌, ◌<◌, ◌≤◌, true, cond, eqb, sym, refl, ap, ◌∙◌, subst, inl, inr, arith}
use Rattle.std.proofs.lemmas.Bool.{eqb-true, ltb-true, eq-eqb, ne_eqb, lt-ltb, and_parts, and_from, cond-true, cond-false, cases_eq}
use Rattle.std.proofs.lemmas.Bool.Decides.{nat_tests}
use Rattle.rules.specs.Trees.{Tree, empty, node, count, size, exchange, swap}
use Rattle.rules.specs.Links.{grow, spells, Spells, sum_below}

-- the test and the relation
pub to_spells : (L R : ℕ → ℕ) (n i : ℕ) (t : Tree) → spells L R n i t ≡ true → Spells L R n i t
unfolding spells
to_spells L R n i empty e = eqb-true i 65535 e
to_spells L R n i (node k l r) e =
    let a = and_parts _ _ e in
    let b = and_parts _ _ a.1 in
    let c = and_parts _ _ b.1 in
    (eqb-true i k a.0, ltb-true k n b.0, to_spells L R n (L k) l c.0, to_spells L R n (R k) r c.1)

pub from_spells : (L R : ℕ → ℕ) (n i : ℕ) (t : Tree) → Spells L R n i t → spells L R n i t ≡ true
unfolding spells
from_spells L R n i empty e = eq-eqb i 65535 e
from_spells L R n i (node k l r) s =
    and_from _ _ (eq-eqb i k s.0) (and_from _ _ (lt-ltb k n s.1) (and_from _ _ (from_spells L R n (L k) l s.2) (from_spells L R n (R k) r s.3)))

-- the links spell one tree only
pub grow_is : (L R : ℕ → ℕ) (n i f : ℕ) (t : Tree) → n ≤ 65535 → size t ≤ f → Spells L R n i t → grow L R f i ≡ t
unfolding grow size
grow_is L R n i zero empty h z s = refl
grow_is L R n i (suc f) empty h z s = cond-true _ _ _ (eq-eqb i 65535 s)
grow_is L R n i zero (node k l r) h z s = absurd (omega arith)
grow_is L R n i (suc f) (node k l r) h z s =
    let ne : i ≡ 65535 → ⊥ = λ e. omega (arith, s.0, s.1) in
    let a = grow_is L R n (L k) f l h (omega arith) s.2 in
    let b = grow_is L R n (R k) f r h (omega arith) s.3 in
    let e = s.0 in
    cond-false _ _ _ (ne_eqb i 65535 ne) ∙ cc

pub sum_add : (g h : ℕ → ℕ) (n : ℕ) → sum_below (λ k. g k + h k) n ≡ sum_below g n + sum_below h n
unfolding sum_below
sum_add g h zero = refl
sum_add g h (suc n) = omega (arith, sum_add g h n)

pub sum_zero : (n : ℕ) → sum_below (λ k. 0) n ≡ 0
unfolding sum_below
sum_zero zero = refl
sum_zero (suc n) = omega (arith, sum_zero n)

pub sum_none : (k n : ℕ) → n ≤ k → sum_below (λ m. cond (eqb m k) 1 0) n ≡ 0
unfolding sum_below
sum_none k zero h = refl
sum_none k (suc n) h =
    let e : ◌≡◌ {A = ℕ} (cond (eqb n k) 1 0) 0 = cond-false _ _ _ (ne_eqb n k (λ e. omega arith)) in
    omega (arith, e, sum_none k n (omega arith))

pub sum_one : (k n : ℕ) → k < n → sum_below (λ m. cond (eqb m k) 1 0) n ≡ 1
unfolding sum_below
sum_one k zero h = absurd (omega arith)
sum_one k (suc n) h = elim (cases_eq n k) [
  | inl e ↦
      let a : ◌≡◌ {A = ℕ} (cond (eqb n k) 1 0) 1 = cond-true _ _ _ (eq-eqb n k e) in
      omega (arith, a, sum_none k n (omega arith))
  | inr d ↦
      let a : ◌≡◌ {A = ℕ} (cond (eqb n k) 1 0) 0 = cond-false _ _ _ (ne_eqb n k d) in
      omega (arith, a, sum_one k n (omega arith))
]

pub sum_le : (g : ℕ → ℕ) (n : ℕ) → ((k : ℕ) → g k ≤ 1) → sum_below g n ≤ n
unfolding sum_below
sum_le g zero h = omega arith
sum_le g (suc n) h = omega (arith, h n, sum_le g n h)

size_sum : (L R : ℕ → ℕ) (n i : ℕ) (t : Tree) → Spells L R n i t → sum_below (λ m. count m t) n ≡ size t
unfolding count size
size_sum L R n i empty s = sum_zero n
size_sum L R n i (node k l r) s =
    omega (
      arith,
      sum_add (λ m. cond (eqb m k) 1 0) (λ m. count m l + count m r) n,
      sum_add (λ m. count m l) (λ m. count m r) n,
      sum_one k n s.1,
      size_sum L R n (L k) l s.2,
      size_sum L R n (R k) r s.3,
    )

-- a tree in which no block stands twice is no larger than the table
pub size_le : (L R : ℕ → ℕ) (n i : ℕ) (t : Tree) → Spells L R n i t → ((k : ℕ) → count k t ≤ 1) → size t ≤ n
size_le L R n i t s h = omega (arith, size_sum L R n i t s, sum_le (λ m. count m t) n h)

-- where the links of a tree's own blocks stay, so does the tree
pub frame : (L R L' R' : ℕ → ℕ) (n i : ℕ) (t : Tree) → ((k : ℕ) → 0 < count k t → (L' k ≡ L k) × (R' k ≡ R k))
    → Spells L R n i t → Spells L' R' n i t
unfolding count
frame L R L' R' n i empty h s = s
frame L R L' R' n i (node k l r) h s =
    let one : ◌≡◌ {A = ℕ} (cond (eqb k k) 1 0) 1 = cond-true _ _ _ (eq-eqb k k refl) in
    let e = h k (omega arith) in
    let a = frame L R L' R' n (L k) l (λ m z. h m (omega arith)) s.2 in
    let b = frame L R L' R' n (R k) r (λ m z. h m (omega arith)) s.3 in
    (s.0, s.1, subst (λ x. Spells L' R' n x l) (sym e.0) a, subst (λ x. Spells L' R' n x r) (sym e.1) b)

exchange_below : (i j k n : ℕ) → i < n → j < n → k < n → exchange i j k < n
exchange_below i j k n a b h = grind (arith, nat_tests)

exchange_none : (i j k : ℕ) → i < 65535 → j < 65535 → k ≡ 65535 → exchange i j k ≡ 65535
exchange_none i j k a b h = grind (arith, nat_tests)

pub exchange_twice : (i j k : ℕ) → exchange i j (exchange i j k) ≡ k
exchange_twice i j k = grind (arith, nat_tests)

exchange_eqb : (i j k m : ℕ) → eqb k (exchange i j m) ≡ eqb (exchange i j k) m
exchange_eqb i j k m = grind (arith, nat_tests)

-- links that are renamed spell the renamed tree
pub swap_spells : (L R L' R' : ℕ → ℕ) (n i j : ℕ) → i < n → j < n → n ≤ 65535
    → ((k : ℕ) → k < n → (L' (exchange i j k) ≡ exchange i j (L k)) × (R' (exchange i j k) ≡ exchange i j (R k)))
    → (r : ℕ) (t : Tree) → Spells L R n r t → Spells L' R' n (exchange i j r) (swap i j t)
unfolding swap
swap_spells L R L' R' n i j a b c h r empty s = exchange_none i j r (omega arith) (omega arith) s
swap_spells L R L' R' n i j a b c h r (node k x y) s =
    let e = h k s.1 in
    let p = swap_spells L R L' R' n i j a b c h (L k) x s.2 in
    let q = swap_spells L R L' R' n i j a b c h (R k) y s.3 in
    (ap (exchange i j) s.0, exchange_below i j k n a b s.1, subst (λ z. Spells L' R' n z (swap i j x)) (sym e.0) p, subst (λ z. Spells L' R' n z (swap i j y)) (sym e.1) q)

pub swap_count : (i j k : ℕ) (t : Tree) → count k (swap i j t) ≡ count (exchange i j k) t
unfolding swap count
swap_count i j k empty = refl
swap_count i j k (node m l r) =
    let e = ap {B = ℕ} (λ b. cond b 1 0) (exchange_eqb i j k m) in
    omega (arith, e, swap_count i j k l, swap_count i j k r)
