-- What a load's answer tells of the blocks.
use Rattle.std.proofs.Common.{◌≡◌, ℕ, ◌<◌, ◌≤◌, true, false, cond, ltb, ◌≢◌, List, length, get_or, Some, None, Ok, Err, Option, Result, sym, refl, ap, ◌∙◌, inl, inr, arith, lit<}
use Rattle.std.proofs.lemmas.Bool.{cases_lt, ltb-true, ltb-false, lt-ltb, le-ltb, eqb-true, eqb-false, not-false, cond-true, cond-false}
use Rattle.rules.specs.declared.blocks.Children.{Children}
use Rattle.rules.specs.declared.refusals.Refusal.{Refusal}
use Rattle.rules.specs.declared.refusals.Refusal.TheVariants.{WrongRoot, ChildTwice, Unreached}
use Rattle.rules.specs.Trees.{count}
use Rattle.rules.specs.Links.{left_of, right_of, tree_of, Spells, named, Path}
use Rattle.rules.specs.Letters.{letter_of}
use Rattle.rules.specs.Plans.{size_at, size_fits}
use Rattle.rules.specs.Loads.{Given, first, when_found, is_some, wrong_size, wrong_letter, wrong_root, named_twice, unreached, load_refusal}
use Rattle.loading.specs.Linked.{Treed}
use Rattle.loading.specs.Told.{Told}
use Rattle.loading.proofs.Firsts.{none_found, found_at}
use Rattle.loading.proofs.Trees.{linked, rooted, treed}
use Rattle.loading.proofs.Paths.{path_stands, standing_path, path_named, count_past}
use Rattle.loading.proofs.Refusing.{stage, Answers, answered_ok, answered_err, past_when, past_found, past_all}

-- what is known once no block is named twice
record Singly (cs : List Children) (root : ℕ) : Type 0 where
  few : length cs ≤ 512
  tree : Treed cs root
  named_once : (k : ℕ) → k < length cs → named cs root k ≤ 1

-- an answer from behind that test
singly : (g : Given) (x : Option Refusal) → 7 < stage x → stage x < 18 → load_refusal g ≡ x
    → Singly g.children g.root × (when_found (first (unreached g.children g.root) 0 (length g.children)) Unreached None ≡ x)
singly g x lo hi e =
    let not_root : 6 ≢ stage x = λ q. omega arith in
    let not_twice : (k : ℕ) → 7 ≢ stage x = λ k q. omega arith in
    let late : 5 < stage x = omega arith in
    let p = past_all g x late hi e in
    let a = past_when (wrong_root (length g.children) g.root) WrongRoot _ x not_root p.2 in
    let b = past_found (first (named_twice g.children g.root) 0 (length g.children)) ChildTwice _ x not_twice a.1 in
    let few : length g.children ≤ 512 = omega (arith, p.0.few, p.0.children_long) in (
      record {
        few = few;
        tree = treed g.children g.root few (linked g.children p.1.children_fit) (rooted _ _ a.0) b.0;
        named_once = λ k h. ltb-false 1 _ (none_found (named_twice g.children g.root) _ b.0 k h);
      },
      b.1,
    )

-- a block that is not among the unreached stands in the tree once, and a path leads to it
reached_once : (cs : List Children) (root k : ℕ) → Singly cs root → unreached cs root k ≡ false → (count k (tree_of cs root) ≡ 1) × Path cs root k
reached_once cs root k s e =
    let c : count k (tree_of cs root) ≡ 1 = let d : count k (tree_of cs root) ≢ 0 = eqb-false _ _ e in omega (arith, s.tree.once k) in
    (c, standing_path cs s.few root k (tree_of cs root) s.tree.spelt (omega arith))

-- the test that gives its own refusal
found_is : (o : Option ℕ) (r : ℕ → Refusal) (after x : Option Refusal) → after ≢ x → when_found o r after ≡ x → (j : ℕ) × (o ≡ Some j) × (Some (r j) ≡ x)
found_is (Some j) r after x d e = (j, refl, e)
found_is None r after x d e = absurd (d e)

-- what an accepted load gives
pub record Accepted (g : Given) : Type 0 where
  pub few : length g.sizes ≤ 512
  pub letters_long : length g.letters ≡ length g.sizes
  pub children_long : length g.children ≡ length g.sizes
  pub sizes_fit : (i : ℕ) → i < length g.sizes → size_fits (size_at g.sizes i) ≡ true
  pub letters_fit : (i : ℕ) → i < length g.letters → is_some (letter_of (get_or g.letters i 0)) ≡ true
  pub spelt : Spells (left_of g.children) (right_of g.children) (length g.children) g.root (tree_of g.children g.root)
  pub counted : (k : ℕ) → count k (tree_of g.children g.root) ≡ cond (ltb k (length g.children)) 1 0

pub accepted_tree : (g : Given) → load_refusal g ≡ None → Accepted g
accepted_tree g e =
    let p = past_all g None (lit< tt) (lit< tt) e in
    let s = singly g None (lit< tt) (lit< tt) e in
    let u = past_found _ Unreached None None (λ k q. omega arith) s.1 in
    record {
      few = p.0.few;
      letters_long = p.0.letters_long;
      children_long = p.0.children_long;
      sizes_fit = λ i h. not-false _ (none_found (wrong_size g.sizes) _ p.1.sizes_fit i h);
      letters_fit = λ i h. not-false _ (none_found (wrong_letter g.letters) _ p.1.letters_fit i h);
      spelt = s.0.tree.spelt;
      counted = λ k. elim (cases_lt k (length g.children)) [
        | inl h ↦ (reached_once g.children g.root k s.0 (none_found (unreached g.children g.root) _ u.0 k h)).0 ∙ sym (cond-true _ _ _ (lt-ltb k _ h))
        | inr h ↦ count_past g.children s.0.few g.root k _ s.0.tree.spelt h ∙ sym (cond-false _ _ _ (le-ltb k _ h))
      ];
    }

-- what the answer tells, by the first refusal
pub told : (g : Given) (r : Result (Unit {0}) Refusal) → Answers r (load_refusal g) → Told g.children g.root r
told g r e = record { accepted = accepted; child_twice = child_twice; not_reached = not_reached }
  where
    accepted : r ≡ Ok tt → (k : ℕ) → k < length g.children → Path g.children g.root k × (named g.children g.root k ≡ 1) × (count k (tree_of g.children g.root) ≡ 1)
    accepted ok k h =
        let s = singly g None (lit< tt) (lit< tt) (answered_ok _ _ (sym e ∙ ok)) in
        let u = past_found _ Unreached None None (λ j q. omega arith) s.1 in
        let once = reached_once g.children g.root k s.0 (none_found (unreached g.children g.root) _ u.0 k h) in
        (once.1, omega (arith, s.0.named_once k h, path_named g.children s.0.few g.root k once.1), once.0)

    not_later : (k : ℕ) → when_found (first (unreached g.children g.root) 0 (length g.children)) Unreached None ≢ Some (ChildTwice k)
    not_later k q = omega (arith, ap stage (past_found _ Unreached None (Some (ChildTwice k)) (λ j z. omega arith) q).1)

    child_twice : (k : ℕ) → r ≡ Err (ChildTwice k) → (1 < named g.children g.root k) × ((j : ℕ) → j < k → named g.children g.root j ≤ 1)
    child_twice k twice =
        let p = past_all g (Some (ChildTwice k)) (lit< tt) (lit< tt) (answered_err _ _ _ (sym e ∙ twice)) in
        let a = past_when (wrong_root (length g.children) g.root) WrongRoot _ (Some (ChildTwice k)) (λ q. omega arith) p.2 in
        let b = found_is _ ChildTwice _ (Some (ChildTwice k)) (not_later k) a.1 in
        let same : b.0 ≡ k = cc b.2 in
        let at = found_at (named_twice g.children g.root) (length g.children) k (b.1 ∙ ap Some same) in
        (ltb-true 1 _ at.1, λ j h. ltb-false 1 _ (at.2 j h))

    not_reached : (k : ℕ) → r ≡ Err (Unreached k) → (Path g.children g.root k → ⊥) × ((j : ℕ) → j < k → Path g.children g.root j)
    not_reached k missed =
        let s = singly g (Some (Unreached k)) (lit< tt) (lit< tt) (answered_err _ _ _ (sym e ∙ missed)) in
        let b = found_is _ Unreached None (Some (Unreached k)) (λ q. omega (arith, ap stage q)) s.1 in
        let same : b.0 ≡ k = cc b.2 in
        let at = found_at (unreached g.children g.root) (length g.children) k (b.1 ∙ ap Some same) in (
          λ p. omega (arith, eqb-true _ 0 at.1, path_stands g.children s.0.few g.root k _ s.0.tree.spelt p),
          λ j h. (reached_once g.children g.root j s.0 (at.2 j h)).1,
        )
