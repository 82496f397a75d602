-- A block put into the tree.
use Rattle.std.proofs.Common.{◌≡◌, ℕ, ◌<◌, ◌≤◌, Bool, true, false, cond, eqb, List, length, set, sym, refl, ap, ◌∙◌, subst, inl, inr, arith}
use Rattle.std.proofs.lemmas.Bool.{cases_eq, eq-eqb, ne_eqb, lt-ltb, cond-true, cond-false}
use Rattle.std.proofs.lemmas.List.{length-set, get_or-set_same, get_or-set_other}
use Rattle.rules.specs.declared.blocks.Children.{Children}
use Rattle.rules.specs.declared.edits.Side.{Side}
use Rattle.rules.specs.declared.edits.Side.TheVariants.{Left, Right}
use Rattle.rules.specs.Trees.{Tree, empty, node, count, left_under, right_under, hang, put_in}
use Rattle.rules.proofs.Counts.{own, others, parts_le, not_in, no_count, hang_count, put_in_hang}
use Rattle.table.specs.declared.blocks.Block.{Block}
use Rattle.table.specs.Tables.{at, blank, lefts, rights, no_children, hung, below_by, above_by, under, alone, put, put_root, within, Holds, Keeps, FitsIn}
use Rattle.table.proofs.Rows.{Linkless, set_part}
use Rattle.table.proofs.Holding.{Sp, frame_at, in_tree_once, in_tree_within}

module _ (bs es : List Block) (n i j : ℕ) (hi : i < n) (hj : j < n) where
  sides : (s : Side) → at es i ≡ below_by s (at bs j) (at bs i) → at es j ≡ above_by s i (at bs j)
      → (a c : Tree) → Sp es n (at bs j).children.left a → Sp es n (at bs j).children.right c → Sp es n j (node j (left_under s i a) (right_under s i c))
  sides Left ei ej a c fa fc = (
    refl,
    hj,
    (ap (λ b. b.children.left) ej, hi, subst (λ z. Sp es n z a) (sym (ap (λ b. b.children.left) ei)) fa, ap (λ b. b.children.right) ei),
    subst (λ z. Sp es n z c) (sym (ap (λ b. b.children.right) ej)) fc,
  )
  sides Right ei ej a c fa fc = (
    refl,
    hj,
    subst (λ z. Sp es n z a) (sym (ap (λ b. b.children.left) ej)) fa,
    (ap (λ b. b.children.right) ej, hi, ap (λ b. b.children.left) ei, subst (λ z. Sp es n z c) (sym (ap (λ b. b.children.right) ei)) fc),
  )

  hanging : (s : Side) → at es i ≡ below_by s (at bs j) (at bs i) → at es j ≡ above_by s i (at bs j)
      → ((m : ℕ) → (m ≡ i → ⊥) → (m ≡ j → ⊥) → at es m ≡ at bs m)
      → (x : ℕ) (t : Tree) → count j t ≤ 1 → count i t ≡ 0 → Sp bs n x t → Sp es n x (hang s i j t)
  unfolding hang
  hanging s ei ej o x empty u z w = w
  hanging s ei ej o x (node k a c) u z w =
      let za : count i a ≡ 0 = omega (arith, parts_le i k a c) in
      let zc : count i c ≡ 0 = omega (arith, parts_le i k a c) in
      elim (cases_eq k j) [
        | inl p ↦
            let q = own k a c in
            let e1 = ap (λ y. count y (node k a c)) p in
            let ya : count j a ≡ 0 = omega (arith, ap (λ y. count y a) p) in
            let yc : count j c ≡ 0 = omega (arith, ap (λ y. count y c) p) in
            let fa = frame_at bs es n (lefts bs k) a (λ m h. o m (not_in i m a za h) (not_in j m a ya h)) w.2 in
            let fc = frame_at bs es n (rights bs k) c (λ m h. o m (not_in i m c zc h) (not_in j m c yc h)) w.3 in
            let r = sides s ei ej a c (subst (λ y. Sp es n (lefts bs y) a) p fa) (subst (λ y. Sp es n (rights bs y) c) p fc) in
            let r' = subst (λ y. Sp es n y (node y (left_under s i a) (right_under s i c))) (sym p) r in
            subst (λ y. Sp es n x y) (sym (cond-true _ _ _ (eq-eqb k j p))) (w.0, w.1, r'.2, r'.3)
        | inr d ↦
            let di : k ≡ i → ⊥ = λ p. omega (arith, own k a c, ap (λ y. count y (node k a c)) p) in
            let e = o k di d in
            let sa = hanging s ei ej o (lefts bs k) a (omega (arith, parts_le j k a c)) za w.2 in
            let sc = hanging s ei ej o (rights bs k) c (omega (arith, parts_le j k a c)) zc w.3 in
            subst (λ y. Sp es n x y) (sym (cond-false _ _ _ (ne_eqb k j d)))
            (w.0, w.1, subst (λ y. Sp es n y (hang s i j a)) (sym (ap (λ b. b.children.left) e)) sa, subst (λ y. Sp es n y (hang s i j c)) (sym (ap (λ b. b.children.right) e)) sc)
      ]

-- under j
module _ (i j : ℕ) (s : Side) (bs : List Block) where
  under_long : length (under i j s bs) ≡ length bs
  under_long = length-set _ j _ ∙ length-set bs i _

  under_part : {X : Type 0} (f : Block → X) → ((c : Children) (b : Block) → f (hung c b) ≡ f b) → Linkless f
      → (k : ℕ) → f (at (under i j s bs) k) ≡ f (at bs k)
  under_part f h g k =
      let first : (m : ℕ) → f (at (set bs i (below_by s (at bs j) (at bs i))) m) ≡ f (at bs m)
      = λ m. set_part f bs i m (below_by s (at bs j) (at bs i)) (h _ (at bs i)) in
      set_part f (set bs i (below_by s (at bs j) (at bs i))) j k (above_by s i (at bs j)) (g _ (at bs j) ∙ sym (first j)) ∙ first k

  under_keeps : Keeps bs (under i j s bs)
  under_keeps = record {
    long = under_long;
    sizes = under_part (λ b. b.size) (λ c b. refl) (λ c b. refl);
    letters = under_part (λ b. b.letter) (λ c b. refl) (λ c b. refl);
  }

  module _ (hi : i < length bs) (hj : j < length bs) (d : i ≡ j → ⊥) where
    at_under_j : at (under i j s bs) j ≡ above_by s i (at bs j)
    at_under_j = get_or-set_same _ j _ blank (omega (arith, length-set bs i (below_by s (at bs j) (at bs i))))

    at_under_i : at (under i j s bs) i ≡ below_by s (at bs j) (at bs i)
    at_under_i = get_or-set_other _ j i _ blank d ∙ get_or-set_same bs i _ blank hi

    at_under : (m : ℕ) → (m ≡ i → ⊥) → (m ≡ j → ⊥) → at (under i j s bs) m ≡ at bs m
    at_under m a b = get_or-set_other _ j m _ blank b ∙ get_or-set_other bs i m _ blank a

    under_present : (m : ℕ) → (m ≡ i → ⊥) → (at (under i j s bs) m).present ≡ (at bs m).present
    under_present m a = elim (cases_eq m j) [
      | inl e ↦ ap (λ q. (at (under i j s bs) q).present) e ∙ ap (λ b. b.present) at_under_j ∙ ap (λ q. (at bs q).present) (sym e)
      | inr b ↦ ap (λ b. b.present) (at_under m a b)
    ]

    under_holds : (root : ℕ) (t : Tree) → count i t ≡ 0 → count j t ≡ 1 → Holds bs root t → Holds (under i j s bs) root (hang s i j t)
    under_holds root t zi oj h =
        let es = under i j s bs in
        let small = h.few in
        let w = hanging bs es (length bs) i j hi hj s at_under_i at_under_j at_under root t (omega arith) zi h.spelt in
        record {
          few = omega (arith, under_long);
          spelt = subst (λ k. Sp es k root (hang s i j t)) (sym under_long) w;
          once = λ m. elim (cases_eq m i) [
            | inl e ↦
                let q = hang_count s i j i t oj in
                let o : count i (node i empty empty) ≡ 1 = omega (arith, own i empty empty, no_count i) in
                let p : (at es m).present ≡ true = ap (λ y. (at es y).present) e ∙ ap (λ b. b.present) at_under_i in
                ap (λ y. count y (hang s i j t)) e ∙ q ∙ omega (arith, o, zi, cond-true {A = ℕ} (at es m).present 1 0 p)
            | inr a ↦
                let o : count m (node i empty empty) ≡ 0 = omega (arith, others m i empty empty a, no_count m) in
                hang_count s i j m t oj ∙ omega (arith, o) ∙ h.once m ∙ ap {B = ℕ} (λ b. cond b 1 0) (sym (under_present m a))
          ];
        }

-- alone
no_root_empty : (bs : List Block) (root : ℕ) (t : Tree) → root ≡ 65535 → Holds bs root t → t ≡ empty
no_root_empty bs root empty e h = refl
no_root_empty bs root (node k a c) e h = let small = h.few in absurd (omega (arith, h.spelt.0, h.spelt.1))

root_not_empty : (bs : List Block) (root : ℕ) (t : Tree) → (root ≡ 65535 → ⊥) → Holds bs root t → t ≡ empty → ⊥
root_not_empty bs root t ne h e = ne (subst (λ u. Sp bs (length bs) root u) e h.spelt)

module _ (i : ℕ) (bs : List Block) where
  alone_keeps : Keeps bs (alone i bs)
  alone_keeps = record {
    long = length-set bs i _;
    sizes = λ k. set_part (λ b. b.size) bs i k (hung no_children (at bs i)) refl;
    letters = λ k. set_part (λ b. b.letter) bs i k (hung no_children (at bs i)) refl;
  }

  alone_holds : (root : ℕ) → i < length bs → Holds bs root empty → Holds (alone i bs) i (node i empty empty)
  alone_holds root hi h =
      let es = alone i bs in
      let small = h.few in
      let long = length-set bs i (hung no_children (at bs i)) in
      let here = get_or-set_same bs i (hung no_children (at bs i)) blank hi in
      record {
        few = omega arith;
        spelt = (refl, omega arith, ap (λ b. b.children.left) here, ap (λ b. b.children.right) here);
        once = λ m. elim (cases_eq m i) [
          | inl q ↦
              let p : (at es m).present ≡ true = ap (λ y. (at es y).present) q ∙ ap (λ b. b.present) here in
              ap (λ y. count y (node i empty empty)) q ∙ omega (arith, own i empty empty, no_count i, cond-true {A = ℕ} (at es m).present 1 0 p)
          | inr a ↦
              let p : (at es m).present ≡ (at bs m).present = ap (λ b. b.present) (get_or-set_other bs i m (hung no_children (at bs i)) blank a) in
              omega (arith, others m i empty empty a, no_count m) ∙ sym (no_count m) ∙ h.once m ∙ ap {B = ℕ} (λ b. cond b 1 0) (sym p)
        ];
      }

-- the whole edit
module _ (i j : ℕ) (s : Side) (root : ℕ) (bs : List Block) where
  put_keeps : Keeps bs (put i j s root bs)
  put_keeps = go (within i bs) (eqb root 65535) (within j bs)
    where
      same : Keeps bs bs
      same = record { long = refl; sizes = λ k. refl; letters = λ k. refl }

      go : (u v w : Bool) → Keeps bs (cond u (cond v (alone i bs) (cond w (under i j s bs) bs)) bs)
      go true true w = alone_keeps i bs
      go true false true = under_keeps i j s bs
      go true false false = same
      go false v w = same

  module _ (hi : i < length bs) where
    first_true : {X : Type 0} (x y : X) → cond (within i bs) x y ≡ x
    first_true x y = cond-true _ _ _ (lt-ltb i (length bs) hi)

    put_alone_is : root ≡ 65535 → (alone i bs ≡ put i j s root bs) × (i ≡ put_root i root bs)
    put_alone_is e =
        (sym (first_true _ _ ∙ cond-true _ _ _ (eq-eqb root 65535 e)), sym (first_true _ _ ∙ cond-true _ _ _ (eq-eqb root 65535 e)))

    put_root_stays : (root ≡ 65535 → ⊥) → root ≡ put_root i root bs
    put_root_stays ne = sym (first_true _ _ ∙ cond-false _ _ _ (ne_eqb root 65535 ne))

    put_under_is : (root ≡ 65535 → ⊥) → j < length bs → under i j s bs ≡ put i j s root bs
    put_under_is ne hj = sym (first_true _ _ ∙ cond-false _ _ _ (ne_eqb root 65535 ne) ∙ cond-true _ _ _ (lt-ltb j (length bs) hj))

  put_in_alone : (t : Tree) → t ≡ empty → put_in i j s t ≡ node i empty empty
  unfolding put_in
  put_in_alone t e = ap (put_in i j s) e

  put_holds : (t : Tree) → Holds bs root t → FitsIn i j bs t → Holds (put i j s root bs) (put_root i root bs) (put_in i j s t)
  put_holds t h f = elim (cases_eq root 65535) [
    | inl e ↦
        let z = no_root_empty bs root t e h in
        let a = put_alone_is f.known e in
        let r = alone_holds i bs root f.known (subst (Holds bs root) z h) in
        subst (λ x. Holds (put i j s root bs) (put_root i root bs) x) (sym (put_in_alone t z))
        (subst (λ x. Holds (put i j s root bs) x (node i empty empty)) a.1 (subst (λ x. Holds x i (node i empty empty)) a.0 r))
    | inr ne ↦
        let p = f.under_present (root_not_empty bs root t ne h) in
        let hj = in_tree_within h j p in
        let d : i ≡ j → ⊥ = λ e. not_in i j t f.absent p (sym e) in
        let r = under_holds i j s bs f.known hj d root t f.absent (in_tree_once h j p) h in
        subst (λ x. Holds (put i j s root bs) (put_root i root bs) x) (sym (put_in_hang i j s t p))
        (subst (λ x. Holds (put i j s root bs) x (hang s i j t)) (put_root_stays f.known ne) (subst (λ x. Holds x root (hang s i j t)) (put_under_is f.known ne hj) r))
  ]

  -- what the table with i keeps
  pub put_in_keeps : (cs : List Block) → cs ≡ put i j s root bs → Keeps bs cs
  put_in_keeps cs e = subst (Keeps bs) (sym e) put_keeps

  -- and the tree that it holds
  pub put_in_holds : (cs : List Block) (r : ℕ) → cs ≡ put i j s root bs → r ≡ put_root i root bs
      → (t : Tree) → Holds bs root t → FitsIn i j bs t → Holds cs r (put_in i j s t)
  put_in_holds cs r e f t h w =
      subst (λ x. Holds x r (put_in i j s t)) (sym e) (subst (λ x. Holds (put i j s root bs) x (put_in i j s t)) (sym f) (put_holds t h w))
