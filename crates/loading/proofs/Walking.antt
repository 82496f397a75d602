-- The walk over a tree that links spell: each entry of the stack has a subtree that is still to be walked, and
-- a block is marked once it is not in those any more.
use Rattle.std.proofs.Common.{◌≡◌, ℕ, zero, suc, ◌+◌, ◌<◌, ◌≤◌, Bool, true, false, cond, eqb, ◌≢◌, List, [], ◌∷◌, length, get_or, set, replicate, sym, refl, ap, ◌∙◌, subst, inl, inr, arith, get_or-set_other, get_or-set_same}
use Rattle.std.proofs.lemmas.Bool.{cases_eq, eq-eqb, ne_eqb, cond-true, cond-false}
use Rattle.rules.specs.declared.blocks.Children.{Children}
use Rattle.rules.specs.Trees.{Tree, empty, node, count}
use Rattle.rules.specs.Links.{left_of, right_of, tree_of, Spells, sum_below}
use Rattle.rules.proofs.Counts.{no_count}
use Rattle.rules.proofs.Spelling.{sum_add, sum_one, sum_le}
use Rattle.loading.specs.Linked.{Treed}
use Rattle.loading.specs.Walks.{added}
use Rattle.loading.proofs.Sums.{sum_same, sum_mono}

-- the links from each entry spell the tree at its place
abbrev pub Pending : List Children → List ℕ → List Tree → Type 0
Pending cs [] [] = Unit {0}
Pending cs [] (u ∷ us) = ⊥
Pending cs (e ∷ es) [] = ⊥
Pending cs (e ∷ es) (u ∷ us) = (e < length cs) × Spells (left_of cs) (right_of cs) (length cs) e u × Pending cs es us

-- how often k stands in the trees
pub counts : ℕ → List Tree → ℕ
counts k [] = 0
counts k (u ∷ us) = count k u + counts k us

-- 1 for a marked block, else 0
abbrev pub mark : List Bool → ℕ → ℕ
mark reached k = cond (get_or reached k false) 1 0

-- how many of the blocks below n are marked
pub marks : ℕ → List Bool → ℕ
marks n reached = sum_below (mark reached) n

-- es on the stack, and these blocks marked
pub record Walking (cs : List Children) (root : ℕ) (es : List ℕ) (reached : List Bool) : Type 0 where
  pub trees : List Tree
  pub pending : Pending cs es trees
  pub counted : (k : ℕ) → mark reached k + counts k trees ≡ count k (tree_of cs root)

added_length : (k : ℕ) (es : List ℕ) → k < 65535 → length (added k es) ≡ suc (length es)
added_length k es h = ap length (cond-false _ es (k ∷ es) (ne_eqb k 65535 (λ e. omega arith)))

unmarked : (n k : ℕ) → get_or (replicate n false) k false ≡ false
unmarked zero k = refl
unmarked (suc n) zero = refl
unmarked (suc n) (suc k) = unmarked n k

-- the same walk over another term for the stack
pub restacked : {cs : List Children} {root : ℕ} {es os : List ℕ} {reached : List Bool} → os ≡ es → Walking cs root es reached → Walking cs root os reached
restacked {cs} {root} {es} {os} {reached} e w = subst (λ (xs : List ℕ). Walking cs root xs reached) (sym e) w

module _ (cs : List Children) (few : length cs ≤ 512) where
  -- an entry stands in its own tree
  entry_counts : (e m : ℕ) (u : Tree) → e < length cs → Spells (left_of cs) (right_of cs) (length cs) e u → cond (eqb m e) 1 0 ≤ count m u
  unfolding count
  entry_counts e m empty h s = absurd (omega arith)
  entry_counts e m (node j l r) h s = omega (arith, ap {B = ℕ} (λ k. cond (eqb m k) 1 0) s.0)

  pending_length : (es : List ℕ) (us : List Tree) → Pending cs es us → length es ≤ sum_below (λ k. counts k us) (length cs)
  unfolding counts
  pending_length [] us p = omega arith
  pending_length (e ∷ es) [] p = absurd p
  pending_length (e ∷ es) (u ∷ us) p =
      omega (
        arith,
        sum_add (λ k. count k u) (λ k. counts k us) (length cs),
        sum_one e (length cs) p.0,
        sum_mono (λ m. cond (eqb m e) 1 0) (λ m. count m u) (length cs) (λ m. entry_counts e m u p.0 p.1),
        pending_length es us p.2,
      )

  -- the stack and the marked blocks together are no more than there are blocks
  pub walking_length : {root : ℕ} {es : List ℕ} {reached : List Bool} → Treed cs root → Walking cs root es reached → length es + marks (length cs) reached ≤ length cs
  unfolding marks
  walking_length {root} {es} {reached} t w =
      let us = w.trees in
      omega (
        arith,
        pending_length es us w.pending,
        sum_add (mark reached) (λ k. counts k us) (length cs),
        sum_le (λ k. mark reached k + counts k us) (length cs) (λ k. omega (arith, w.counted k, t.once k)),
      )

  -- a link's tree goes on the pending ones with the link's block
  pending_added : (e : ℕ) (es : List ℕ) (u : Tree) (us : List Tree) → Spells (left_of cs) (right_of cs) (length cs) e u → Pending cs es us
      → (vs : List Tree) × Pending cs (added e es) vs × ((k : ℕ) → counts k vs ≡ count k u + counts k us)
  unfolding counts
  pending_added e es empty us s p =
      (us, subst (λ (os : List ℕ). Pending cs os us) (sym (cond-true _ _ _ (eq-eqb e 65535 s))) p, λ k. omega (arith, no_count k))
  pending_added e es (node j l r) us s p =
      let ne : e ≢ 65535 = λ q. omega (arith, s.0, s.1) in (
        node j l r ∷ us,
        subst (λ (os : List ℕ). Pending cs os (node j l r ∷ us)) (sym (cond-false _ _ _ (ne_eqb e 65535 ne))) (omega (arith, s.0, s.1), s, p),
        λ k. refl,
      )

  -- the mark of a block after that of e is set, which it was not before
  next_mark : {root e : ℕ} {es : List ℕ} {reached : List Bool} → Treed cs root → e < length reached → Walking cs root (e ∷ es) reached
      → (k : ℕ) → mark (set reached e true) k ≡ mark reached k + cond (eqb k e) 1 0
  unfolding counts
  next_mark {root} {e} {es} {reached} t h w k = go w.trees w.pending w.counted
    where
      go : (us : List Tree) → Pending cs (e ∷ es) us → ((m : ℕ) → mark reached m + counts m us ≡ count m (tree_of cs root))
          → mark (set reached e true) k ≡ mark reached k + cond (eqb k e) 1 0
      go [] p c = absurd p
      go (u ∷ us) p c = elim (cases_eq k e) [
        | inl q ↦
            let one : ◌≡◌ {A = ℕ} (cond (eqb e e) 1 0) 1 = cond-true _ _ _ (eq-eqb e e refl) in
            let is : mark (set reached e true) e ≡ 1 = cond-true _ _ _ (get_or-set_same reached e true false h) in
            let at_e : mark (set reached e true) e ≡ mark reached e + cond (eqb e e) 1 0
            = omega (arith, c e, t.once e, entry_counts e e u p.0 p.1) in
            subst (λ (m : ℕ). mark (set reached e true) m ≡ mark reached m + cond (eqb m e) 1 0) (sym q) at_e
        | inr d ↦
            let zero_flag : ◌≡◌ {A = ℕ} (cond (eqb k e) 1 0) 0 = cond-false _ _ _ (ne_eqb k e d) in
            let same : mark (set reached e true) k ≡ mark reached k = ap {B = ℕ} (λ b. cond b 1 0) (get_or-set_other reached e k true false d) in
            omega (arith, zero_flag, same)
      ]

  -- a turn of the walk: e comes off the stack and is marked, and the blocks of its links go on
  next : {root e : ℕ} {es : List ℕ} {reached : List Bool} → Treed cs root → e < length reached → Walking cs root (e ∷ es) reached
      → Walking cs root (added (left_of cs e) (added (right_of cs e) es)) (set reached e true)
  unfolding counts count
  next {root} {e} {es} {reached} t h w = go w.trees w.pending w.counted
    where
      go : (us : List Tree) → Pending cs (e ∷ es) us → ((m : ℕ) → mark reached m + counts m us ≡ count m (tree_of cs root))
          → Walking cs root (added (left_of cs e) (added (right_of cs e) es)) (set reached e true)
      go [] p c = absurd p
      go (empty ∷ us) p c = absurd (omega (arith, p.0, p.1))
      go (node j l r ∷ us) p c =
          let is = p.1.0 in
          let b = pending_added (right_of cs e) es r us (subst (λ (i : ℕ). Spells (left_of cs) (right_of cs) (length cs) (right_of cs i) r) (sym is) p.1.3) p.2 in
          let a = pending_added (left_of cs e) (added (right_of cs e) es) l b.0 (subst (λ (i : ℕ). Spells (left_of cs) (right_of cs) (length cs) (left_of cs i) l) (sym is) p.1.2) b.1 in
          record {
            trees = a.0;
            pending = a.1;
            counted = λ k. omega (arith, next_mark t h w k, a.2 k, b.2 k, c k, ap {B = ℕ} (λ i. cond (eqb k i) 1 0) is);
          }

  -- what a turn that takes e off the stack needs and gives
  pub record Turn (root e : ℕ) (es : List ℕ) (reached : List Bool) : Type 0 where
    pub inside : e < length cs
    pub room : length es < length cs
    pub room_beside : left_of cs e < 65535 → length (added (right_of cs e) es) < length cs
    pub again : Walking cs root (added (left_of cs e) (added (right_of cs e) es)) (set reached e true)
    pub fewer : marks (length cs) reached < length cs
    pub more : marks (length cs) (set reached e true) ≡ suc (marks (length cs) reached)

  pub turn : {root e : ℕ} {es os : List ℕ} {reached : List Bool} → Treed cs root → length reached ≡ 512 → Walking cs root os reached → os ≡ e ∷ es
      → Turn root e es reached
  unfolding marks
  turn {root} {e} {es} {os} {reached} t long v is =
      let w = restacked (sym is) v in
      let inside = within w.trees w.pending in
      let h : e < length reached = omega arith in
      let len = walking_length t w in
      let then = next t h w in
      record {
        inside = inside;
        room = omega (arith, len);
        room_beside = λ some. omega (arith, walking_length t then, added_length (left_of cs e) (added (right_of cs e) es) some);
        again = then;
        fewer = omega (arith, len);
        more = sum_same _ _ (length cs) (next_mark t h w) ∙ sum_add (mark reached) (λ k. cond (eqb k e) 1 0) (length cs) ∙ omega (arith, sum_one e (length cs) inside);
      }
    where
      within : (us : List Tree) → Pending cs (e ∷ es) us → e < length cs
      within [] p = absurd p
      within (u ∷ us) p = p.0

  pub walk_start : {root : ℕ} → Treed cs root → Walking cs root (added root []) (replicate 512 false)
  unfolding counts
  walk_start {root} t =
      let a = pending_added root [] (tree_of cs root) [] t.spelt tt in
      record { trees = a.0; pending = a.1; counted = λ k. omega (arith, a.2 k, ap {B = ℕ} (λ b. cond b 1 0) (unmarked 512 k)) }

  pub walk_end : {root : ℕ} {es : List ℕ} {reached : List Bool} → Walking cs root es reached → es ≡ [] → (k : ℕ) → mark reached k ≡ count k (tree_of cs root)
  unfolding counts
  walk_end {root} {es} {reached} v is k =
      let w = restacked (sym is) v in
      go w.trees w.pending (w.counted k)
    where
      go : (us : List Tree) → Pending cs [] us → mark reached k + counts k us ≡ count k (tree_of cs root) → mark reached k ≡ count k (tree_of cs root)
      go [] p c = omega arith
      go (u ∷ us) p c = absurd p
