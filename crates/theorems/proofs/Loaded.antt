-- A load that passes its tests gives a whole plan with every block present.
use Rattle.std.proofs.Common.{◌≡◌, ℕ, ◌<◌, ◌≤◌, ltb, length, inl, inr, arith}
use Rattle.std.proofs.lemmas.Bool.{cases_lt, lt-ltb, le-ltb, cond-true, cond-false}
use Rattle.rules.specs.Trees.{count}
use Rattle.rules.specs.Links.{tree_of}
use Rattle.rules.specs.Plans.{block_count, present}
use Rattle.rules.specs.Loads.{Given, given_plan}
use Rattle.loading.proofs.Accepting.{Accepted, accepted_tree}
use Rattle.theorems.specs.Presence.{LoadsAreWhole}

module _ (g : Given) (a : Accepted g) where
  stands : (k : ℕ) → k < length g.children → count k (tree_of g.children g.root) ≡ 1
  stands k h = omega (arith, a.counted k, cond-true {A = ℕ} (ltb k (length g.children)) 1 0 (lt-ltb k _ h))

  stands_not : (k : ℕ) → length g.children ≤ k → count k (tree_of g.children g.root) ≡ 0
  stands_not k h = omega (arith, a.counted k, cond-false {A = ℕ} (ltb k (length g.children)) 1 0 (le-ltb k _ h))

  once : (k : ℕ) → count k (tree_of g.children g.root) ≤ 1
  once k = elim (cases_lt k (length g.children)) [ inl h ↦ omega (arith, stands k h) | inr h ↦ omega (arith, stands_not k h) ]

  known : (k : ℕ) → 0 < count k (tree_of g.children g.root) → k < length g.children
  known k p = elim (cases_lt k (length g.children)) [ inl h ↦ h | inr h ↦ absurd (omega (arith, stands_not k h)) ]

pub loads_are_whole : LoadsAreWhole
unfolding given_plan block_count present
loads_are_whole g e =
    let a = accepted_tree g e in (
      record { once = once g a; known = λ k b. omega (arith, known g a k b, a.children_long) },
      λ k b. lt-ltb 0 _ (omega (arith, stands g a k (omega (arith, a.children_long)))),
    )
