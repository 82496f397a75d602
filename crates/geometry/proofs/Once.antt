-- A block stands in the tree's list of blocks if its count is above 0, and at most once if its count is at most 1.
use Rattle.std.proofs.Common.{ℕ, ◌<◌, ◌≤◌, ap, inl, inr, arith}
use Rattle.std.proofs.lemmas.Bool.{cases_eq, cases_lt}
use Rattle.rules.specs.Trees.{Tree, empty, node, count, blocks, Among, Distinct}
use Rattle.rules.specs.Plans.{Plan, Whole}
use Rattle.rules.proofs.Counts.{no_count, own, others, parts_le}
use Rattle.geometry.proofs.Members.{among_split, among_left, among_right, distinct_join}

pub counted_among : (k : ℕ) (t : Tree) → 0 < count k t → Among k (blocks t)
counted_among k empty h = absurd (omega (arith, no_count k))
counted_among k (node i l r) h = elim (cases_eq k i) [
  | inl e ↦ inl e
  | inr d ↦ elim (cases_lt 0 (count k l)) [
    | inl a ↦ inr (among_left k (blocks l) (blocks r) (counted_among k l a))
    | inr a ↦ inr (among_right k (blocks l) (blocks r) (counted_among k r (omega (arith, others k i l r d))))
  ]
]

pub among_counted : (k : ℕ) (t : Tree) → Among k (blocks t) → 0 < count k t
among_counted k empty m = absurd m
among_counted k (node i l r) (inl e) = omega (arith, own i l r, ap (λ (j : ℕ). count j (node i l r)) e)
among_counted k (node i l r) (inr m) = elim (among_split k (blocks l) (blocks r) m) [
  | inl h ↦ omega (arith, parts_le k i l r, among_counted k l h)
  | inr h ↦ omega (arith, parts_le k i l r, among_counted k r h)
]

pub counts_distinct : (t : Tree) → ((k : ℕ) → count k t ≤ 1) → Distinct (blocks t)
counts_distinct empty u = tt
counts_distinct (node i l r) u = (
  λ m. elim (among_split i (blocks l) (blocks r) m) [
    | inl h ↦ omega (arith, u i, own i l r, among_counted i l h)
    | inr h ↦ omega (arith, u i, own i l r, among_counted i r h)
  ],
  distinct_join (blocks l) (blocks r) (record {
    first = counts_distinct l (λ k. omega (arith, u k, parts_le k i l r));
    second = counts_distinct r (λ k. omega (arith, u k, parts_le k i l r));
    apart = λ k a b. omega (arith, u k, parts_le k i l r, among_counted k l a, among_counted k r b);
  }),
)

pub whole_distinct : (p : Plan) → Whole p → Distinct (blocks p.tree)
whole_distinct p w = counts_distinct p.tree w.once
