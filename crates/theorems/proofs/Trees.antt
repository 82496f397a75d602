-- Trees after two edits of which the second takes the first back.
use Rattle.std.proofs.Common.{◌≡◌, ℕ, refl, ap, ◌∙◌, inl, inr, arith}
use Rattle.std.proofs.lemmas.Bool.{cases_eq, eq-eqb, ne_eqb, cond-true, cond-false}
use Rattle.rules.specs.declared.edits.Side.{Side}
use Rattle.rules.specs.declared.edits.Side.TheVariants.{Left, Right}
use Rattle.rules.specs.Trees.{Tree, empty, node, count, swap, join, take_out, left_under, right_under, hang, put_in}
use Rattle.rules.proofs.Counts.{own, parts_le}
use Rattle.rules.proofs.Spelling.{exchange_twice}

pub swap_swap : (i j : ℕ) (t : Tree) → swap i j (swap i j t) ≡ t
unfolding swap
swap_swap i j empty = refl
swap_swap i j (node k l r) =
    let e = exchange_twice i j k in
    let a = swap_swap i j l in
    let b = swap_swap i j r in cc

-- a block that is not in a tree is not at its root, and in neither subtree
not_root : (i k : ℕ) (l r : Tree) → count i (node k l r) ≡ 0 → (k ≡ i → ⊥) × (count i l ≡ 0) × (count i r ≡ 0)
not_root i k l r z =
    (λ p. omega (arith, own k l r, ap (λ q. count q (node k l r)) p), omega (arith, parts_le i k l r), omega (arith, parts_le i k l r))

take_out_none : (i : ℕ) (t : Tree) → count i t ≡ 0 → take_out i t ≡ t
unfolding take_out
take_out_none i empty z = refl
take_out_none i (node k l r) z =
    let n = not_root i k l r z in
    let a = take_out_none i l n.1 in
    let b = take_out_none i r n.2 in
    cond-false _ _ _ (ne_eqb k i n.0) ∙ cc

-- past a root that is not i, taking out i goes on in both subtrees
past_root : (i k : ℕ) (l r l' r' : Tree) → (k ≡ i → ⊥) → take_out i l ≡ l' → take_out i r ≡ r' → take_out i (node k l r) ≡ node k l' r'
unfolding take_out
past_root i k l r l' r' d a b = cond-false _ _ _ (ne_eqb k i d) ∙ cc

at_root : (i : ℕ) (l r : Tree) → take_out i (node i l r) ≡ join l r
unfolding take_out
at_root i l r = cond-true _ _ _ (eq-eqb i i refl)

join_left : (l : Tree) → join l empty ≡ l
unfolding join
join_left empty = refl
join_left (node i a b) = refl

join_right : (r : Tree) → join empty r ≡ r
unfolding join
join_right empty = refl
join_right (node i a b) = refl

under_left : (s : Side) (i : ℕ) (l : Tree) → count i l ≡ 0 → take_out i (left_under s i l) ≡ l
under_left Left i l z = at_root i l empty ∙ join_left l
under_left Right i l z = take_out_none i l z

under_right : (s : Side) (i : ℕ) (r : Tree) → count i r ≡ 0 → take_out i (right_under s i r) ≡ r
under_right Left i r z = take_out_none i r z
under_right Right i r z = at_root i empty r ∙ join_right r

take_out_hang : (s : Side) (i j : ℕ) (t : Tree) → count i t ≡ 0 → take_out i (hang s i j t) ≡ t
unfolding hang
take_out_hang s i j empty z = take_out_none i empty z
take_out_hang s i j (node k l r) z =
    let n = not_root i k l r z in
    elim (cases_eq k j) [
      | inl p ↦
          ap (take_out i) (cond-true _ _ _ (eq-eqb k j p)) ∙ past_root i k _ _ l r n.0 (under_left s i l n.1) (under_right s i r n.2)
      | inr d ↦
          ap (take_out i) (cond-false _ _ _ (ne_eqb k j d))
          ∙ past_root i k _ _ l r n.0 (take_out_hang s i j l n.1) (take_out_hang s i j r n.2)
    ]

pub take_out_put_in : (i j : ℕ) (s : Side) (t : Tree) → count i t ≡ 0 → take_out i (put_in i j s t) ≡ t
unfolding put_in
take_out_put_in i j s empty z = at_root i empty empty ∙ join_left empty
take_out_put_in i j s (node k l r) z = take_out_hang s i j (node k l r) z
