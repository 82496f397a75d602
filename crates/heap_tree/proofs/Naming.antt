-- The links of the tree, how often they name a block, and the paths to the blocks.
use Rattle.std.proofs.Common.{◌≡◌, ℕ, zero, suc, ◌+◌, ◌-◌, ◌*◌, ◌/◌, ◌%◌, ◌<◌, ◌≤◌, cond, eqb, ltb, ◌≢◌, length, sym, ap, ◌∙◌, subst, inl, inr, arith}
use Rattle.std.proofs.lemmas.List.FromFn.{length-map-range_with_len, get_or-map-range_with_len}
use Rattle.std.proofs.lemmas.Bool.{cases_lt, cases_eq, cond-true, cond-false, lt-ltb, le-ltb, ne_eqb}
use Rattle.rules.specs.declared.blocks.Children.{Children}
use Rattle.rules.specs.Links.{left_of, right_of, sum_below, leading, named, Path, at_root, to_left, to_right}
use Rattle.rules.proofs.Counts.{flag_le}
use Rattle.heap_tree.specs.Heap.{child_link, child_pair, heap_children}

pub link_is : (n i : ℕ) → i < n → child_link n i ≡ i
link_is n i h = cond-true (ltb i n) i 65535 (lt-ltb i n h)

pub link_none : (n i : ℕ) → n ≤ i → child_link n i ≡ 65535
link_none n i h = cond-false (ltb i n) i 65535 (le-ltb i n h)

pub length_heap : (n : ℕ) → length (heap_children n) ≡ n
unfolding heap_children
length_heap n = length-map-range_with_len (child_pair n) 0 n

module _ (n k : ℕ) (h : k < n) where
  pub left_is : left_of (heap_children n) k ≡ child_link n (2 * k + 1)
  unfolding heap_children
  left_is = ap (λ (p : Children). p.left) (get_or-map-range_with_len (child_pair n) 0 n k k _ h (omega arith))

  pub right_is : right_of (heap_children n) k ≡ child_link n (2 * k + 2)
  unfolding heap_children
  right_is = ap (λ (p : Children). p.right) (get_or-map-range_with_len (child_pair n) 0 n k k _ h (omega arith))

-- a sum of which each part is 0, and one of which all parts but one are
sum_nothing : (g : ℕ → ℕ) (n : ℕ) → ((p : ℕ) → p < n → g p ≡ 0) → sum_below g n ≡ 0
unfolding sum_below
sum_nothing g zero h = omega arith
sum_nothing g (suc n) h = omega (arith, h n (omega arith), sum_nothing g n (λ p l. h p (omega arith)))

sum_single : (g : ℕ → ℕ) (n q : ℕ) → g q ≤ 1 → ((p : ℕ) → p < n → p ≢ q → g p ≡ 0) → sum_below g n ≤ 1
unfolding sum_below
sum_single g zero q one h = omega arith
sum_single g (suc n) q one h = elim (cases_eq n q) [
  | inl e ↦ omega (arith, ap g e, sum_nothing g n (λ p l. h p (omega arith) (λ d. omega arith)))
  | inr d ↦ omega (arith, h n (omega arith) d, sum_single g n q one (λ p l. h p (omega arith)))
]

-- 1 for a link that leads to k, else 0
abbrev hit : ℕ → ℕ → ℕ
hit k m = cond (eqb m k) 1 0

-- a link that leads elsewhere does not name k
elsewhere : (n i k : ℕ) → n ≤ 512 → k < n → i ≢ k → hit k (child_link n i) ≡ 0
elsewhere n i k few h d = cond-false (eqb (child_link n i) k) 1 0 (ne_eqb (child_link n i) k other)
  where
    other : child_link n i ≢ k
    other e = elim (cases_lt i n) [ inl l ↦ d (sym (link_is n i l) ∙ e) | inr l ↦ omega (arith, link_none n i l) ]

module _ (n : ℕ) (few : n ≤ 512) (k : ℕ) (h : k < n) where
  left_other : (p : ℕ) → p < n → 2 * p + 1 ≢ k → hit k (left_of (heap_children n) p) ≡ 0
  left_other p l d = ap (hit k) (left_is n p l) ∙ elsewhere n (2 * p + 1) k few h d

  right_other : (p : ℕ) → p < n → 2 * p + 2 ≢ k → hit k (right_of (heap_children n) p) ≡ 0
  right_other p l d = ap (hit k) (right_is n p l) ∙ elsewhere n (2 * p + 2) k few h d

  -- an odd number is a left child once, an even one but 0 a right child once, and 0 is the root
  pub named_once : named (heap_children n) (child_link n 0) k ≤ 1
  unfolding leading
  named_once = subst (λ m. (sum_below L m + sum_below R m) + hit k (child_link n 0) ≤ 1) (sym (length_heap n)) once
    where
      L : ℕ → ℕ
      L = λ p. hit k (left_of (heap_children n) p)

      R : ℕ → ℕ
      R = λ p. hit k (right_of (heap_children n) p)

      once : (sum_below L n + sum_below R n) + hit k (child_link n 0) ≤ 1
      once = elim (cases_eq k 0) [
        | inl is_root ↦
            let l = sum_nothing L n (λ p b. left_other p b (λ e. omega arith)) in
            let r = sum_nothing R n (λ p b. right_other p b (λ e. omega arith)) in
            omega (arith, flag_le (eqb (child_link n 0) k))
        | inr other ↦
            let root = elsewhere n 0 k few h (λ e. other (sym e)) in
            elim (cases_eq (k % 2) 1) [
              | inl odd ↦
                  let l = sum_single L n ((k - 1) / 2) (flag_le _) (λ p b d. left_other p b (λ e. omega arith)) in
                  let r = sum_nothing R n (λ p b. right_other p b (λ e. omega arith)) in
                  omega arith
              | inr even ↦
                  let l = sum_nothing L n (λ p b. left_other p b (λ e. omega arith)) in
                  let r = sum_single R n ((k - 2) / 2) (flag_le _) (λ p b d. right_other p b (λ e. omega arith)) in
                  omega arith
            ]
      ]

-- a path leads from the root to each block, by the block's parent
module _ (n : ℕ) where
  path_by : (fuel k : ℕ) → k < fuel → k < n → Path (heap_children n) (child_link n 0) k
  path_by zero k f h = absurd (omega arith)
  path_by (suc fuel) k f h = elim (cases_eq k 0) [
    | inl is_root ↦
        let here = link_is n 0 (omega arith) in
        subst to (here ∙ sym is_root) (at_root (omega (arith, here, length_heap n)))
    | inr other ↦ elim (cases_eq (k % 2) 1) [
      | inl odd ↦
          let p : ℕ = (k - 1) / 2 in
          let here : left_of (heap_children n) p ≡ k = left_is n p (omega arith) ∙ link_is n (2 * p + 1) (omega arith) ∙ omega arith in
          subst to here (to_left (path_by fuel p (omega arith) (omega arith)) (omega (arith, here, length_heap n)))
      | inr even ↦
          let p : ℕ = (k - 2) / 2 in
          let here : right_of (heap_children n) p ≡ k = right_is n p (omega arith) ∙ link_is n (2 * p + 2) (omega arith) ∙ omega arith in
          subst to here (to_right (path_by fuel p (omega arith) (omega arith)) (omega (arith, here, length_heap n)))
    ]
  ]
    where
      to : ℕ → Type 0
      to = Path (heap_children n) (child_link n 0)

  pub path_to : (k : ℕ) → k < n → Path (heap_children n) (child_link n 0) k
  path_to k h = path_by (k + 1) k (omega arith) h
