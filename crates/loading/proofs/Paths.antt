-- Paths of links, and the blocks of the tree that the links spell.
use Rattle.std.proofs.Common.{◌≡◌, ℕ, ◌<◌, ◌≤◌, cond, eqb, List, length, sym, refl, ap, subst, inl, inr, arith}
use Rattle.std.proofs.lemmas.Bool.{cases_eq, cases_lt, eq-eqb, cond-true}
use Rattle.rules.specs.declared.blocks.Children.{Children}
use Rattle.rules.specs.Trees.{Tree, empty, node, count}
use Rattle.rules.specs.Links.{left_of, right_of, Spells, Path, at_root, to_left, to_right, named}
use Rattle.rules.proofs.Counts.{no_count, own, others, parts_le}
use Rattle.loading.proofs.Namings.{leading_from}

module _ (cs : List Children) (few : length cs ≤ 512) where
  -- the links from i on spell the tree
  abbrev Spelt : ℕ → Tree → Type 0
  Spelt i t = Spells (left_of cs) (right_of cs) (length cs) i t

  -- the block that a link leads to stands in the link's tree
  top_stands : (i : ℕ) (t : Tree) → Spelt i t → i < length cs → 0 < count i t
  top_stands i empty s h = absurd (omega arith)
  top_stands i (node j l r) s h = omega (arith, ap (λ (k : ℕ). count k (node j l r)) s.0, own j l r)

  -- where the top of each tree has its child g in the tree, so has every block of it
  child_stands : (g : ℕ → ℕ) → ((i j : ℕ) (l r : Tree) → Spelt i (node j l r) → g j < length cs → 0 < count (g j) (node j l r))
      → (i k : ℕ) (t : Tree) → Spelt i t → 0 < count k t → g k < length cs → 0 < count (g k) t
  child_stands g top i k empty s c h = absurd (omega (arith, no_count k))
  child_stands g top i k (node j l r) s c h = elim (cases_eq k j) [
    | inl e ↦ subst (λ (m : ℕ). 0 < count (g m) (node j l r)) (sym e) (top i j l r s (subst (λ (m : ℕ). g m < length cs) e h))
    | inr d ↦ elim (cases_lt 0 (count k l)) [
      | inl a ↦ omega (arith, parts_le (g k) j l r, child_stands g top (left_of cs j) k l s.2 a h)
      | inr a ↦ omega (arith, parts_le (g k) j l r, child_stands g top (right_of cs j) k r s.3 (omega (arith, others k j l r d)) h)
    ]
  ]

  left_stands : (i k : ℕ) (t : Tree) → Spelt i t → 0 < count k t → left_of cs k < length cs → 0 < count (left_of cs k) t
  left_stands = child_stands (left_of cs) (λ i j l r s h. omega (arith, parts_le (left_of cs j) j l r, top_stands (left_of cs j) l s.2 h))

  right_stands : (i k : ℕ) (t : Tree) → Spelt i t → 0 < count k t → right_of cs k < length cs → 0 < count (right_of cs k) t
  right_stands = child_stands (right_of cs) (λ i j l r s h. omega (arith, parts_le (right_of cs j) j l r, top_stands (right_of cs j) r s.3 h))

  -- a path leads only to blocks of the tree
  pub path_stands : (root k : ℕ) (t : Tree) → Spelt root t → Path cs root k → 0 < count k t
  path_stands root _ t s (at_root h) = top_stands root t s h
  path_stands root _ t s (to_left {i = i} p h) = left_stands root i t s (path_stands root i t s p) h
  path_stands root _ t s (to_right {i = i} p h) = right_stands root i t s (path_stands root i t s p) h

  -- to each block of the tree below a block on a path a path leads
  stands_path : (root i k : ℕ) (t : Tree) → (i < length cs → Path cs root i) → Spelt i t → 0 < count k t → Path cs root k
  stands_path root i k empty p s c = absurd (omega (arith, no_count k))
  stands_path root i k (node j l r) p s c =
      let here : Path cs root j = subst (Path cs root) s.0 (p (omega (arith, s.0, s.1))) in
      elim (cases_eq k j) [
        | inl e ↦ subst (Path cs root) (sym e) here
        | inr d ↦ elim (cases_lt 0 (count k l)) [
          | inl a ↦ stands_path root (left_of cs j) k l (λ h. to_left here h) s.2 a
          | inr a ↦ stands_path root (right_of cs j) k r (λ h. to_right here h) s.3 (omega (arith, others k j l r d))
        ]
      ]

  -- so a path leads to each block of the tree
  pub standing_path : (root k : ℕ) (t : Tree) → Spelt root t → 0 < count k t → Path cs root k
  standing_path root k t s c = stands_path root root k t (λ h. at_root h) s c

  path_within : (root k : ℕ) → Path cs root k → k < length cs
  path_within root _ (at_root h) = h
  path_within root _ (to_left p h) = h
  path_within root _ (to_right p h) = h

  -- a block that a path leads to is named
  pub path_named : (root k : ℕ) → Path cs root k → 0 < named cs root k
  path_named root _ (at_root h) =
      let one : ◌≡◌ {A = ℕ} (cond (eqb root root) 1 0) 1 = cond-true _ _ _ (eq-eqb root root refl) in
      omega (arith, one)
  path_named root _ (to_left {i = i} p h) = omega (arith, leading_from (left_of cs) (length cs) i (path_within root i p))
  path_named root _ (to_right {i = i} p h) = omega (arith, leading_from (right_of cs) (length cs) i (path_within root i p))

  -- no other number than a block's stands in the tree
  pub count_past : (i k : ℕ) (t : Tree) → Spelt i t → length cs ≤ k → count k t ≡ 0
  count_past i k empty s h = no_count k
  count_past i k (node j l r) s h =
      omega (arith, others k j l r (λ e. omega (arith, s.1)), count_past (left_of cs j) k l s.2 h, count_past (right_of cs j) k r s.3 h)
