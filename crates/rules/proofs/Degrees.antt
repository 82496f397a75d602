-- Links that lead to each block at most once, and not to the root, spell a tree.
use Rattle.std.proofs.Common.{◌≡◌, ℕ, zero, suc, ◌+◌, ◌<◌, ◌≤◌, Bool, true, false, cond, eqb, ◌⊎◌, sym, refl, ap, ◌∙◌, subst, inl, inr, arith}
use Rattle.std.proofs.lemmas.Bool.{eq-eqb, ne_eqb, cond-true, cond-false, cases_eq, cases_lt}
use Rattle.rules.specs.Trees.{Tree, empty, node, count, size}
use Rattle.rules.specs.Links.{grow, Spells, sum_below, leading}
use Rattle.rules.proofs.Spelling.{sum_add, sum_one, sum_le}

-- the same, each link weighed
weigh : (ℕ → ℕ) → ℕ → ℕ → (ℕ → ℕ) → ℕ
weigh f n m w = sum_below (λ p. cond (eqb (f p) m) (w p) 0) n

weigh_add : (f : ℕ → ℕ) (n m : ℕ) (v w : ℕ → ℕ) → weigh f n m (λ p. v p + w p) ≡ weigh f n m v + weigh f n m w
unfolding weigh sum_below
weigh_add f zero m v w = refl
weigh_add f (suc n) m v w =
    let e : cond (eqb (f n) m) (v n + w n) 0 ≡ cond (eqb (f n) m) (v n) 0 + cond (eqb (f n) m) (w n) 0 = both (eqb (f n) m) (v n) (w n) in
    omega (arith, weigh_add f n m v w)
  where
    both : (b : Bool) (x y : ℕ) → cond b (x + y) 0 ≡ cond b x 0 + cond b y 0
    both true x y = refl
    both false x y = refl

-- a weight of one at x alone
weigh_none : (f : ℕ → ℕ) (n m x : ℕ) → n ≤ x → weigh f n m (λ p. cond (eqb p x) 1 0) ≡ 0
unfolding weigh sum_below
weigh_none f zero m x h = refl
weigh_none f (suc n) m x h =
    let z : ◌≡◌ {A = ℕ} (cond (eqb n x) 1 0) 0 = cond-false _ _ _ (ne_eqb n x (λ e. omega arith)) in
    let e : cond (eqb (f n) m) (cond (eqb n x) 1 0) 0 ≡ 0 = either (eqb (f n) m) (cond (eqb n x) 1 0) z in
    omega (arith, weigh_none f n m x (omega arith))
  where
    either : (b : Bool) (y : ℕ) → y ≡ 0 → cond b y 0 ≡ 0
    either true y e = e
    either false y e = refl

weigh_one : (f : ℕ → ℕ) (n m x : ℕ) → x < n → weigh f n m (λ p. cond (eqb p x) 1 0) ≡ cond (eqb (f x) m) 1 0
unfolding weigh sum_below
weigh_one f zero m x h = absurd (omega arith)
weigh_one f (suc n) m x h = elim (cases_eq n x) [
  | inl e ↦
      let z : ◌≡◌ {A = ℕ} (cond (eqb n x) 1 0) 1 = cond-true _ _ _ (eq-eqb n x e) in
      let a : cond (eqb (f n) m) (cond (eqb n x) 1 0) 0 ≡ cond (eqb (f x) m) 1 0 = ap (λ w. cond (eqb (f n) m) w 0) z ∙ ap {B = ℕ} (λ q. cond (eqb (f q) m) 1 0) e in
      let b = weigh_none f n m x (omega arith) in
      omega (arith, a, b)
  | inr d ↦
      let z : ◌≡◌ {A = ℕ} (cond (eqb n x) 1 0) 0 = cond-false _ _ _ (ne_eqb n x d) in
      let a : cond (eqb (f n) m) (cond (eqb n x) 1 0) 0 ≡ 0 = ap (λ w. cond (eqb (f n) m) w 0) z ∙ same (eqb (f n) m) in
      omega (arith, a, weigh_one f n m x (omega arith))
]
  where
    same : (b : Bool) → ◌≡◌ {A = ℕ} (cond b 0 0) 0
    same true = refl
    same false = refl

weigh_zero : (f : ℕ → ℕ) (n m : ℕ) (w : ℕ → ℕ) → ((p : ℕ) → w p ≡ 0) → weigh f n m w ≡ 0
unfolding weigh sum_below
weigh_zero f zero m w h = refl
weigh_zero f (suc n) m w h =
    let a : cond (eqb (f n) m) (w n) 0 ≡ 0 = either (eqb (f n) m) (h n) in
    omega (arith, a, weigh_zero f n m w h)
  where
    either : (b : Bool) → w n ≡ 0 → cond b (w n) 0 ≡ 0
    either true e = e
    either false e = refl

weigh_same : (f : ℕ → ℕ) (n m : ℕ) (v w : ℕ → ℕ) → ((p : ℕ) → v p ≡ w p) → weigh f n m v ≡ weigh f n m w
unfolding weigh sum_below
weigh_same f zero m v w h = refl
weigh_same f (suc n) m v w h =
    let a : cond (eqb (f n) m) (v n) 0 ≡ cond (eqb (f n) m) (w n) 0 = ap (λ y. cond (eqb (f n) m) y 0) (h n) in
    omega (arith, a, weigh_same f n m v w h)

weigh_le : (f : ℕ → ℕ) (n m : ℕ) (w : ℕ → ℕ) → ((p : ℕ) → w p ≤ 1) → weigh f n m w ≤ leading f n m
unfolding weigh leading sum_below
weigh_le f zero m w h = omega arith
weigh_le f (suc n) m w h =
    let a : cond (eqb (f n) m) (w n) 0 ≤ cond (eqb (f n) m) 1 0 = either (eqb (f n) m) (h n) in
    omega (arith, a, weigh_le f n m w h)
  where
    either : (b : Bool) → w n ≤ 1 → cond b (w n) 0 ≤ cond b 1 0
    either true e = e
    either false e = omega arith

eqb_turn : (a b : ℕ) → eqb a b ≡ eqb b a
eqb_turn a b = elim (cases_eq a b) [
  | inl e ↦ eq-eqb a b e ∙ sym (eq-eqb b a (sym e))
  | inr d ↦ ne_eqb a b d ∙ sym (ne_eqb b a (λ e. d (sym e)))
]

-- a link to a block or to none
abbrev pub Link : ℕ → ℕ → Type 0
Link n x = (x < n) ⊎ (x ≡ 65535)

sum_same : (w : ℕ → ℕ) (n : ℕ) → ((p : ℕ) → w p ≡ 0) → sum_below w n ≡ 0
unfolding sum_below
sum_same w zero h = refl
sum_same w (suc n) h = omega (arith, h n, sum_same w n h)

weigh_all : (v w : ℕ → ℕ) (n : ℕ) → ((p : ℕ) → v p ≡ w p) → sum_below v n ≡ sum_below w n
unfolding sum_below
weigh_all v w zero h = refl
weigh_all v w (suc n) h = omega (arith, h n, weigh_all v w n h)

size_empty : size empty ≡ 0
unfolding size
size_empty = refl

size_node : (k : ℕ) (x y : Tree) → size (node k x y) ≡ suc (size x + size y)
unfolding size
size_node k x y = refl

module _ (L R : ℕ → ℕ) (n : ℕ) (small : n ≤ 65535) (ll : (p : ℕ) → p < n → Link n (L p)) (rl : (p : ℕ) → p < n → Link n (R p)) where
  grow_none : (f x : ℕ) → x ≡ 65535 → grow L R f x ≡ empty
  unfolding grow
  grow_none zero x e = refl
  grow_none (suc f) x e = cond-true _ _ _ (eq-eqb x 65535 e)

  grow_node : (f x : ℕ) → x < n → grow L R (suc f) x ≡ node x (grow L R f (L x)) (grow L R f (R x))
  unfolding grow
  grow_node f x h = cond-false _ _ _ (ne_eqb x 65535 (λ e. omega arith))

  count_node : (f x m : ℕ) → x < n → count m (grow L R (suc f) x) ≡ cond (eqb m x) 1 0 + (count m (grow L R f (L x)) + count m (grow L R f (R x)))
  unfolding count
  count_node f x m h = ap (count m) (grow_node f x h)

  count_none : (f x m : ℕ) → x ≡ 65535 → count m (grow L R f x) ≡ 0
  unfolding count
  count_none f x m e = ap (count m) (grow_none f x e)

  size_start : (x : ℕ) → size (grow L R 0 x) ≡ 0
  unfolding size grow
  size_start x = refl

  count_start : (x m : ℕ) → count m (grow L R 0 x) ≡ 0
  unfolding count grow
  count_start x m = refl

  -- a block stands below the blocks that point at it
  flip : (f x m : ℕ) → Link n x → m < n
      → count m (grow L R (suc f) x) ≡ cond (eqb m x) 1 0 + (weigh L n m (λ p. count p (grow L R f x)) + weigh R n m (λ p. count p (grow L R f x)))
  flip f x m (inr e) h =
      let a = count_none (suc f) x m e in
      let b = weigh_zero L n m (λ p. count p (grow L R f x)) (λ p. count_none f x p e) in
      let c = weigh_zero R n m (λ p. count p (grow L R f x)) (λ p. count_none f x p e) in
      let d : ◌≡◌ {A = ℕ} (cond (eqb m x) 1 0) 0 = cond-false _ _ _ (ne_eqb m x (λ q. omega arith)) in
      omega (arith, a, b, c, d)
  flip zero x m (inl k) h =
      let a = count_node 0 x m k in
      let b = weigh_zero L n m (λ p. count p (grow L R 0 x)) (λ p. count_start x p) in
      let c = weigh_zero R n m (λ p. count p (grow L R 0 x)) (λ p. count_start x p) in
      omega (arith, a, b, c, count_start (L x) m, count_start (R x) m)
  flip (suc f) x m (inl k) h =
      let a = count_node (suc f) x m k in
      let il = flip f (L x) m (ll x k) h in
      let ir = flip f (R x) m (rl x k) h in
      let part : (g : ℕ → ℕ) → weigh g n m (λ p. count p (grow L R (suc f) x)) ≡ cond (eqb m (g x)) 1 0 + (weigh g n m (λ p. count p (grow L R f (L x))) + weigh g n m (λ p. count p (grow L R f (R x))))
      = λ g.
      weigh_same g n m (λ p. count p (grow L R (suc f) x)) (λ p. cond (eqb p x) 1 0 + (count p (grow L R f (L x)) + count p (grow L R f (R x)))) (λ p. count_node f x p k)
      ∙ weigh_add g n m (λ p. cond (eqb p x) 1 0) (λ p. count p (grow L R f (L x)) + count p (grow L R f (R x)))
      ∙ omega (arith, weigh_one g n m x k, ap {B = ℕ} (λ b. cond b 1 0) (eqb_turn (g x) m), weigh_add g n m (λ p. count p (grow L R f (L x))) (λ p. count p (grow L R f (R x)))) in
      omega (arith, a, il, ir, part L, part R)

  -- the blocks of a tree are below n
  past : (f x m : ℕ) → Link n x → n ≤ m → count m (grow L R f x) ≡ 0
  past zero x m l h = count_start x m
  past (suc f) x m (inr e) h = count_none (suc f) x m e
  past (suc f) x m (inl k) h =
      let d : ◌≡◌ {A = ℕ} (cond (eqb m x) 1 0) 0 = cond-false _ _ _ (ne_eqb m x (λ q. omega arith)) in
      omega (arith, count_node f x m k, d, past f (L x) m (ll x k) h, past f (R x) m (rl x k) h)

  at_most : (root : ℕ) → root < n → leading L n root + leading R n root ≡ 0 → ((m : ℕ) → m < n → leading L n m + leading R n m ≤ 1)
      → (f m : ℕ) → count m (grow L R f root) ≤ 1
  at_most root k z u zero m = omega (arith, count_start root m)
  at_most root k z u (suc f) m = elim (cases_lt m n) [
    | inr h ↦ omega (arith, past (suc f) root m (inl k) h)
    | inl h ↦
        let a = flip f root m (inl k) h in
        let w = at_most root k z u f in
        let b = weigh_le L n m (λ p. count p (grow L R f root)) w in
        let c = weigh_le R n m (λ p. count p (grow L R f root)) w in
        elim (cases_eq m root) [
          | inl e ↦
              let d : ◌≡◌ {A = ℕ} (cond (eqb m root) 1 0) 1 = cond-true _ _ _ (eq-eqb m root e) in
              omega (arith, a, b, c, d, ap (leading L n) e, ap (leading R n) e)
          | inr q ↦
              let d : ◌≡◌ {A = ℕ} (cond (eqb m root) 1 0) 0 = cond-false _ _ _ (ne_eqb m root q) in
              omega (arith, a, b, c, d, u m h)
        ]
  ]

  sized : (f x : ℕ) → Link n x → sum_below (λ m. count m (grow L R f x)) n ≡ size (grow L R f x)
  sized zero x l = sum_same (λ m. count m (grow L R 0 x)) n (λ m. count_start x m) ∙ sym (size_start x)
  sized (suc f) x (inr e) = sum_same (λ m. count m (grow L R (suc f) x)) n (λ m. count_none (suc f) x m e) ∙ sym (ap size (grow_none (suc f) x e) ∙ size_empty)
  sized (suc f) x (inl k) =
      weigh_all (λ m. count m (grow L R (suc f) x)) (λ m. cond (eqb m x) 1 0 + (count m (grow L R f (L x)) + count m (grow L R f (R x)))) n (λ m. count_node f x m k)
      ∙ omega (
        arith,
        sum_add (λ m. cond (eqb m x) 1 0) (λ m. count m (grow L R f (L x)) + count m (grow L R f (R x))) n,
        sum_add (λ m. count m (grow L R f (L x))) (λ m. count m (grow L R f (R x))) n,
        sum_one x n k,
        sized f (L x) (ll x k),
        sized f (R x) (rl x k),
        ap size (grow_node f x k),
        size_node x (grow L R f (L x)) (grow L R f (R x)),
      )

  filled : (f x : ℕ) → Link n x → size (grow L R f x) < f → Spells L R n x (grow L R f x)
  filled zero x l h = absurd (omega arith)
  filled (suc f) x (inr e) h = subst (Spells L R n x) (sym (grow_none (suc f) x e)) e
  filled (suc f) x (inl k) h =
      let z = ap size (grow_node f x k) ∙ size_node x (grow L R f (L x)) (grow L R f (R x)) in
      subst (Spells L R n x) (sym (grow_node f x k))
      (refl, k, filled f (L x) (ll x k) (omega arith), filled f (R x) (rl x k) (omega arith))

  -- where no block is child twice and the root is no child, the links from the root spell a tree
  pub spelt_by_degrees : (root : ℕ) → root < n → leading L n root + leading R n root ≡ 0 → ((m : ℕ) → m < n → leading L n m + leading R n m ≤ 1)
      → Spells L R n root (grow L R (suc n) root) × ((m : ℕ) → count m (grow L R (suc n) root) ≤ 1)
  spelt_by_degrees root k z u =
      let c = at_most root k z u (suc n) in
      (filled (suc n) root (inl k) (omega (arith, sized (suc n) root (inl k), sum_le (λ m. count m (grow L R (suc n) root)) n c)), c)
