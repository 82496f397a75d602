-- The tree passes the tests of load.
use Rattle.std.proofs.Common.{◌≡◌, ℕ, zero, suc, ◌+◌, ◌*◌, ◌<◌, ◌≤◌, Bool, true, false, not, ◌&&◌, eqb, ltb, List, length, replicate, None, sym, refl, ap, ◌∙◌, inl, inr, arith}
use lib.ListN.{length-replicate, get_or-replicate}
use Rattle.std.proofs.lemmas.Bool.{cases_lt, cases_eq, cond-true, cond-false, lt-ltb, le-ltb, eq-eqb, ne_eqb, or_left, or_right, and_from, not_from_true, lt-leb}
use Rattle.rules.specs.declared.blocks.Size.{Size}
use Rattle.rules.specs.declared.refusals.Refusal.TheVariants.{TooManyBlocks, LengthsDiffer, SideOutOfRange, UnknownLetter, WrongChild, ChildTwice, Unreached, MemoryTooShort}
use Rattle.rules.specs.Refusals.{when}
use Rattle.rules.specs.Letters.{letter_of}
use Rattle.rules.specs.Loads.{first, when_found, is_some, link_fits, wrong_size, wrong_letter, wrong_children, wrong_root, named_twice, unreached, tree_refusal, load_refusal}
use Rattle.loading.proofs.Paths.{path_stands}
use Rattle.loading.proofs.Trees.{linked, rooted, treed}
use Rattle.heap_tree.specs.Heap.{child_link, heap_children, heap_given, heap_refusal}
use Rattle.heap_tree.proofs.Naming.{link_is, link_none, length_heap, left_is, right_is, named_once, path_to}

-- a search that passes every number finds none
pub none_first : (f : ℕ → Bool) (i n : ℕ) → ((k : ℕ) → i ≤ k → k < i + n → f k ≡ false) → first f i n ≡ None
unfolding first
none_first f i zero h = refl
none_first f i (suc n) h = cond-false (f i) _ _ (h i (omega arith) (omega arith)) ∙ none_first f (i + 1) n (λ k l m. h k (omega arith) (omega arith))

link_right : (n i : ℕ) → link_fits n (child_link n i) ≡ true
link_right n i = elim (cases_lt i n) [
  | inl l ↦ or_left _ (eqb (child_link n i) 65535) (lt-ltb (child_link n i) n (omega (arith, link_is n i l)))
  | inr l ↦ or_right (ltb (child_link n i) n) _ (eq-eqb (child_link n i) 65535 (link_none n i l))
]

module _ (n : ℕ) (few : n ≤ 512) where
  children_right : first (wrong_children (heap_children n)) 0 (length (heap_children n)) ≡ None
  children_right = none_first (wrong_children (heap_children n)) 0 (length (heap_children n)) right
    where
      fits : (m i : ℕ) → m ≡ child_link n i → link_fits (length (heap_children n)) m ≡ true
      fits m i e = (λ j. link_fits (length_heap n j) (e j)) ∙ link_right n i

      right : (k : ℕ) → 0 ≤ k → k < 0 + length (heap_children n) → wrong_children (heap_children n) k ≡ false
      right k l h =
          let within : k < n = omega (arith, length_heap n) in
          not_from_true _ (and_from _ _ (fits _ (2 * k + 1) (left_is n k within)) (fits _ (2 * k + 2) (right_is n k within)))

  root_right : wrong_root (length (heap_children n)) (child_link n 0) ≡ false
  root_right = ap (λ m. wrong_root m (child_link n 0)) (length_heap n) ∙ elim (cases_eq n 0) [
    | inl none ↦ cond-true (eqb n 0) _ _ (eq-eqb n 0 none) ∙ not_from_true _ (eq-eqb (child_link n 0) 65535 (link_none n 0 (omega arith)))
    | inr some ↦ cond-false (eqb n 0) _ _ (ne_eqb n 0 some) ∙ lt-leb n (child_link n 0) (omega (arith, link_is n 0 (omega arith)))
  ]

  not_named_twice : first (named_twice (heap_children n) (child_link n 0)) 0 (length (heap_children n)) ≡ None
  not_named_twice =
      none_first (named_twice (heap_children n) (child_link n 0)) 0 (length (heap_children n))
      (λ k l h. le-ltb 1 _ (named_once n few k (omega (arith, length_heap n))))

  all_reached : first (unreached (heap_children n) (child_link n 0)) 0 (length (heap_children n)) ≡ None
  all_reached =
      let short : length (heap_children n) ≤ 512 = omega (arith, length_heap n) in
      let tree = treed (heap_children n) (child_link n 0) short (linked (heap_children n) children_right) (rooted _ _ root_right) not_named_twice in
      none_first (unreached (heap_children n) (child_link n 0)) 0 (length (heap_children n))
      (λ k l h.
      let stands = path_stands (heap_children n) short (child_link n 0) k _ tree.spelt (path_to n k (omega (arith, length_heap n))) in
      ne_eqb _ 0 (λ e. omega arith))

  tree_passes : tree_refusal (heap_children n) (child_link n 0) ≡ None
  tree_passes =
      cond-false (wrong_root (length (heap_children n)) (child_link n 0)) _ _ root_right ∙
      (λ j. when_found (not_named_twice j) ChildTwice (when_found (all_reached j) Unreached None))

-- n letters F are letters
letters_right : (n : ℕ) → first (wrong_letter (replicate n 70)) 0 (length {A = ℕ} (replicate n 70)) ≡ None
letters_right n =
    none_first (wrong_letter (replicate n 70)) 0 (length {A = ℕ} (replicate n 70))
    (λ k l h. ap (λ b. not (is_some (letter_of b))) (get_or-replicate n k 70 0 (omega (arith, length-replicate {A = ℕ} n 70))))

same_lengths : (n : ℕ) → not (eqb (length {A = ℕ} (replicate n 70)) n && eqb (length (heap_children n)) n) ≡ false
same_lengths n = not_from_true _ (and_from _ _ (eq-eqb _ n (length-replicate n 70)) (eq-eqb _ n (length_heap n)))

-- only the number of blocks and their sides can be at fault
pub only_sizes : (ss : List Size) → load_refusal (heap_given ss) ≡ heap_refusal ss
unfolding heap_given load_refusal
only_sizes ss = elim (cases_lt 512 (length ss)) [
  | inl many ↦ cond-true (ltb 512 (length ss)) _ _ (lt-ltb 512 (length ss) many) ∙ sym (cond-true (ltb 512 (length ss)) _ _ (lt-ltb 512 (length ss) many))
  | inr few ↦ λ j. when (ltb 512 (length ss)) (TooManyBlocks 0) (when (same_lengths (length ss) j) LengthsDiffer (when (le-ltb 512 (length ss) few j) MemoryTooShort
      (when_found (first (wrong_size ss) 0 (length ss)) SideOutOfRange (when_found (letters_right (length ss) j) UnknownLetter (when_found (children_right (length ss) few j) WrongChild (tree_passes (length ss) few j))))))
]
