-- Child pairs that pass the tests spell a tree.
use Rattle.std.proofs.Common.{◌≡◌, ℕ, ◌<◌, ◌≤◌, true, false, cond, eqb, ltb, List, length, None, sym, refl, ap, ◌∙◌, subst, inl, inr, arith}
use Rattle.std.proofs.lemmas.Bool.{not-false, and_parts, or_cases, ltb-true, ltb-false, eqb-true, eq-eqb, cond-true, leb-false, cases_eq, ne_eqb, cond-false}
use Rattle.rules.specs.declared.blocks.Children.{Children}
use Rattle.rules.specs.Trees.{Tree, empty, count}
use Rattle.rules.specs.Links.{left_of, right_of, tree_of, Spells, named}
use Rattle.rules.specs.Loads.{first, link_fits, wrong_children, named_twice, wrong_root}
use Rattle.rules.proofs.Counts.{no_count}
use Rattle.rules.proofs.Spelling.{grow_is, size_le}
use Rattle.rules.proofs.Degrees.{spelt_by_degrees}
use Rattle.loading.specs.Linked.{Link, Linked, Treed}
use Rattle.loading.proofs.Firsts.{none_found}

link_of : (n k : ℕ) → link_fits n k ≡ true → Link n k
link_of n k e = elim (or_cases (ltb k n) (eqb k 65535) e) [ inl a ↦ inl (ltb-true k n a) | inr a ↦ inr (eqb-true k 65535 a) ]

pub linked : (cs : List Children) → first (wrong_children cs) 0 (length cs) ≡ None → Linked cs
linked cs e i h =
    let fit = and_parts _ _ (not-false _ (none_found (wrong_children cs) (length cs) e i h)) in
    (link_of (length cs) _ fit.0, link_of (length cs) _ fit.1)

pub rooted : (n root : ℕ) → wrong_root n root ≡ false → Link n root
rooted n root e = elim (cases_eq n 0) [
  | inl z ↦ inr (eqb-true root 65535 (not-false _ (sym (cond-true _ _ _ (eq-eqb n 0 z)) ∙ e)))
  | inr d ↦ inl (leb-false n root (sym (cond-false _ _ _ (ne_eqb n 0 d)) ∙ e))
]

-- where a tree is spelt in which no block stands twice, it is the tree of the child pairs
treed_by : (cs : List Children) (root : ℕ) (t : Tree) → length cs ≤ 512 → Spells (left_of cs) (right_of cs) (length cs) root t → ((k : ℕ) → count k t ≤ 1) → Treed cs root
unfolding tree_of
treed_by cs root t few s once =
    let e = grow_is (left_of cs) (right_of cs) (length cs) root (length cs) t (omega arith) (size_le (left_of cs) (right_of cs) (length cs) root t s once) s in
    record {
      spelt = subst (Spells (left_of cs) (right_of cs) (length cs) root) (sym e) s;
      once = λ k. omega (arith, once k, ap (count k) e);
    }

pub treed : (cs : List Children) (root : ℕ) → length cs ≤ 512 → Linked cs → Link (length cs) root → first (named_twice cs root) 0 (length cs) ≡ None → Treed cs root
treed cs root few ls (inr none) e = treed_by cs root empty few none (λ k. omega (arith, no_count k))
treed cs root few ls (inl h) e =
    let at_most : (k : ℕ) → k < length cs → named cs root k ≤ 1 = λ k b. ltb-false 1 _ (none_found (named_twice cs root) (length cs) e k b) in
    let is_root : ◌≡◌ {A = ℕ} (cond (eqb root root) 1 0) 1 = cond-true _ _ _ (eq-eqb root root refl) in
    let s = spelt_by_degrees (left_of cs) (right_of cs) (length cs) (omega arith) (λ p b. (ls p b).0) (λ p b. (ls p b).1) root h
    (omega (arith, at_most root h, is_root)) (λ m b. omega (arith, at_most m b)) in
    treed_by cs root _ few s.0 s.1
