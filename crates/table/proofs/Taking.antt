-- A block taken out of the tree.
use Rattle.std.proofs.Common.{◌≡◌, ℕ, zero, suc, ◌+◌, ◌<◌, ◌≤◌, Bool, true, false, cond, ◌≢◌, ◌⊎◌, List, map, length, set, sym, refl, ap, ◌∙◌, subst, inl, inr, arith}
use Rattle.std.proofs.lemmas.Bool.{cases_eq, cases_lt, eq-eqb, ne_eqb, lt-ltb, cond-true, cond-false}
use Rattle.std.proofs.lemmas.List.{length-set, get_or-set_same, get_or-set_other, length-map, get_or-map}
use Rattle.rules.specs.Trees.{Tree, empty, node, count, size, join, take_out}
use Rattle.rules.specs.Links.{Spells}
use Rattle.rules.proofs.Spelling.{size_le}
use Rattle.rules.proofs.Counts.{own, others, parts_le, not_in, size_node, join_count, take_out_others, take_out_own}
use Rattle.table.specs.declared.blocks.Block.{Block}
use Rattle.table.specs.Tables.{at, blank, lefts, rights, linked, relinked, lowered, heir, joined, point, cleared, taken_by, taken, taken_root, within, Holds, Keeps}
use Rattle.table.proofs.Rows.{Linkless, set_part, map_part, joined_part, joined_long}
use Rattle.table.proofs.Lowering.{lowered_last, lowered_stop, lowered_more}
use Rattle.table.proofs.Holding.{Sp, frame_at, at_most_once, in_tree_within}

-- a node whose own block is written, over subtrees that it is not in
rewritten : (bs : List Block) (n k l r : ℕ) (x y : Tree) → length bs ≡ n → k < n → count k x ≡ 0 → count k y ≡ 0
    → Sp bs n l x → Sp bs n r y → Sp (set bs k (linked l r (at bs k))) n k (node k x y)
rewritten bs n k l r x y e h zx zy sx sy =
    let cs = set bs k (linked l r (at bs k)) in
    let here = get_or-set_same bs k (linked l r (at bs k)) blank (omega arith) in
    let same : (m : ℕ) → m ≢ k → at cs m ≡ at bs m = λ m d. get_or-set_other bs k m (linked l r (at bs k)) blank d in (
      refl,
      h,
      subst (λ z. Sp cs n z x) (sym (ap (λ b. b.children.left) here)) (frame_at bs cs n l x (λ m p. same m (not_in k m x zx p)) sx),
      subst (λ z. Sp cs n z y) (sym (ap (λ b. b.children.right) here)) (frame_at bs cs n r y (λ m p. same m (not_in k m y zy p)) sy),
    )

abbrev Lowers : List Block → List Block → ℕ → ℕ → Tree → Tree → Tree → Type 0
Lowers bs cs n k tl x y =
    Sp cs n k (node k tl (join x y)) × ((m : ℕ) → count m (node k x y) ≡ 0 → at cs m ≡ at bs m)

left_out : (bs : List Block) (k m l r : ℕ) (x y : Tree) → count m (node k x y) ≡ 0 → at (set bs k (linked l r (at bs k))) m ≡ at bs m
left_out bs k m l r x y z = get_or-set_other bs k m (linked l r (at bs k)) blank (λ p. omega (arith, own k x y, ap (λ q. count q (node k x y)) p))

lowers : (n f : ℕ) (bs : List Block) (l : ℕ) (tl : Tree) (k : ℕ) (x y : Tree) → n ≤ 512 → length bs ≡ n → size y < f
    → Sp bs n l tl → k < n → Sp bs n (at bs k).children.left x → Sp bs n (at bs k).children.right y
    → ((m : ℕ) → count m tl + count m (node k x y) ≤ 1)
    → Lowers bs (lowered f l k bs) n k tl x y
unfolding size join
lowers n zero bs l tl k x empty a b c sl kn sx sy u = absurd (omega arith)
lowers n zero bs l tl k x (node j p q) a b c sl kn sx sy u = absurd (omega arith)
lowers n (suc f) bs l tl k x empty a b c sl kn sx sy u =
    let o = own k x empty in
    let h = u k in
    subst (λ cs. Lowers bs cs n k tl x empty) (sym (lowered_last (suc f) f l k bs refl (omega arith) sy))
    (rewritten bs n k l (at bs k).children.left tl x b kn (omega arith) (omega arith) sl sx, λ m z. left_out bs k m l (at bs k).children.left x empty z)
lowers n (suc f) bs l tl k empty (node j p q) a b c sl kn sx sy u =
    let o = own k empty (node j p q) in
    let h = u k in
    let ne : (at bs k).children.right ≡ 65535 → ⊥ = λ e. omega (arith, sy.0, sy.1) in
    subst (λ cs. Lowers bs cs n k tl empty (node j p q)) (sym (lowered_stop (suc f) f l k bs refl (omega arith) ne sx))
    (rewritten bs n k l (at bs k).children.right tl (node j p q) b kn (omega arith) (omega arith) sl sy, λ m z. left_out bs k m l (at bs k).children.right empty (node j p q) z)
lowers n (suc f) bs l tl k (node i v w) (node j p q) a b c sl kn sx sy u =
    let x = node i v w in
    let y = node j p q in
    let o = own k x y in
    let h = u k in
    let zx : count k x ≡ 0 = omega arith in
    let zy : count k y ≡ 0 = omega arith in
    let zt : count k tl ≡ 0 = omega arith in
    let nr : (at bs k).children.right ≡ 65535 → ⊥ = λ e. omega (arith, sy.0, sy.1) in
    let nl : (at bs k).children.left ≡ 65535 → ⊥ = λ e. omega (arith, sx.0, sx.1) in
    let d = linked l (at bs k).children.right (at bs k) in
    let bs1 = set bs k d in
    let same : (m : ℕ) → m ≢ k → at bs1 m ≡ at bs m = λ m e. get_or-set_other bs k m d blank e in
    let sx1 = frame_at bs bs1 n (at bs k).children.left x (λ m e. same m (not_in k m x zx e)) sx in
    let sy1 = frame_at bs bs1 n (at bs k).children.right y (λ m e. same m (not_in k m y zy e)) sy in
    let ih = lowers n f bs1 (at bs k).children.left x j p q a (length-set bs k d ∙ b) (omega arith) sx1 sy1.1 sy1.2 sy1.3
    (λ m. omega (arith, u m, parts_le m k x y)) in
    let ih' = subst (λ z. Lowers bs1 (lowered f (at bs k).children.left z bs1) n j x p q) (sym sy.0) ih in
    let cs = lowered f (at bs k).children.left (at bs k).children.right bs1 in
    let here = ih'.1 k zy ∙ get_or-set_same bs k d blank (omega arith) in
    let st = frame_at bs cs n l tl (λ m e. ih'.1 m (omega (arith, u m, parts_le m k x y)) ∙ same m (not_in k m tl zt e)) sl in
    subst (λ cs. Lowers bs cs n k tl x y) (sym (lowered_more (suc f) f l k bs refl (omega arith) nr nl)) (
      (
        refl,
        kn,
        subst (λ z. Sp cs n z tl) (sym (ap (λ b. b.children.left) here)) st,
        (ap (λ b. b.children.right) here ∙ sy.0, ih'.0.1, ih'.0.2, ih'.0.3),
      ),
      λ m z. ih'.1 m (omega (arith, parts_le m k x y)) ∙ left_out bs k m l (at bs k).children.right x y z,
    )

-- the links spell one tree
unique : (L R : ℕ → ℕ) (n : ℕ) → n ≤ 65535 → (i : ℕ) (t u : Tree) → Spells L R n i t → Spells L R n i u → t ≡ u
unique L R n h i empty empty s z = refl
unique L R n h i empty (node k c d) s z = absurd (omega (arith, s, z.0, z.1))
unique L R n h i (node k a b) empty s z = absurd (omega (arith, z, s.0, s.1))
unique L R n h i (node k a b) (node j c d) s z =
    let e : j ≡ k = sym z.0 ∙ s.0 in
    let p = unique L R n h (L k) a c s.2 (subst (λ q. Spells L R n (L q) c) e z.2) in
    let q = unique L R n h (R k) b d s.3 (subst (λ q. Spells L R n (R q) d) e z.3) in
    cc

-- the subtrees of a block of the tree
abbrev Found : List Block → ℕ → ℕ → Tree → Type 0
Found bs n i s = (tl : Tree) × (tr : Tree) × Sp bs n (at bs i).children.left tl × Sp bs n (at bs i).children.right tr × ((m : ℕ) → count m (node i tl tr) ≤ count m s)

no_empty : (k : ℕ) → 0 < count k empty → ⊥
unfolding count
no_empty k p = omega arith

found : (bs : List Block) (n i x : ℕ) (s : Tree) → Sp bs n x s → 0 < count i s → Found bs n i s
found bs n i x empty s h = absurd (no_empty i h)
found bs n i x (node k a c) s h = go (cases_eq i k) (λ p. found bs n i (lefts bs k) a s.2 p) (λ p. found bs n i (rights bs k) c s.3 p)
  where
    go : (i ≡ k) ⊎ (i ≡ k → ⊥) → (0 < count i a → Found bs n i a) → (0 < count i c → Found bs n i c) → Found bs n i (node k a c)
    go (inl e) fa fc = (
      a,
      c,
      subst (λ q. Sp bs n (lefts bs q) a) (sym e) s.2,
      subst (λ q. Sp bs n (rights bs q) c) (sym e) s.3,
      λ m. subst (λ q. count m (node q a c) ≤ count m (node k a c)) (sym e) (omega arith),
    )
    go (inr d) fa fc = elim (cases_lt 0 (count i a)) [
      | inl p ↦ let f = fa p in (f.0, f.1, f.2, f.3, λ m. omega (arith, f.4 m, parts_le m k a c))
      | inr p ↦ let f = fc (omega (arith, others i k a c d)) in (f.0, f.1, f.2, f.3, λ m. omega (arith, f.4 m, parts_le m k a c))
    ]

root_not : (L R : ℕ → ℕ) (n i x : ℕ) (s : Tree) → n ≤ 65535 → i < n → count i s ≡ 0 → Spells L R n x s → x ≡ i → ⊥
root_not L R n i x empty h a z s e = omega (arith, s)
root_not L R n i x (node k p q) h a z s e = omega (arith, own k p q, ap (λ w. count w (node k p q)) (sym e ∙ s.0))

-- a tree without i stays where the links to i are turned
repoint : (L R L' R' : ℕ → ℕ) (n i t x : ℕ) (s : Tree) → n ≤ 65535 → i < n → count i s ≡ 0
    → ((m : ℕ) → m < n → 0 < count m s → (L' m ≡ point i t (L m)) × (R' m ≡ point i t (R m)))
    → Spells L R n x s → Spells L' R' n x s
repoint L R L' R' n i t x empty h a z e s = s
repoint L R L' R' n i t x (node k p q) h a z e s =
    let zp : count i p ≡ 0 = omega (arith, parts_le i k p q) in
    let zq : count i q ≡ 0 = omega (arith, parts_le i k p q) in
    let f = e k s.1 (omega (arith, own k p q)) in
    let fl = f.0 ∙ cond-false _ _ _ (ne_eqb (L k) i (root_not L R n i (L k) p h a zp s.2)) in
    let fr = f.1 ∙ cond-false _ _ _ (ne_eqb (R k) i (root_not L R n i (R k) q h a zq s.3)) in
    let sp = repoint L R L' R' n i t (L k) p h a zp (λ m b c. e m b (omega (arith, parts_le m k p q))) s.2 in
    let sq = repoint L R L' R' n i t (R k) q h a zq (λ m b c. e m b (omega (arith, parts_le m k p q))) s.3 in
    (s.0, s.1, subst (λ w. Spells L' R' n w p) (sym fl) sp, subst (λ w. Spells L' R' n w q) (sym fr) sq)

-- a tree that holds block i, or shares no block with the right subtree tr of i
abbrev Apart : ℕ → Tree → Tree → Type 0
Apart i tr s = (0 < count i s) ⊎ ((m : ℕ) → count m s + count m tr ≤ 1)

module _ (bs : List Block) (n i : ℕ) (tr : Tree) (small : n ≤ 512) (sr : Sp bs n (at bs i).children.right tr) where
  subtree_le : (x : ℕ) (s : Tree) → Sp bs n x s → 0 < count i s → (m : ℕ) → count m tr ≤ count m s
  subtree_le x s z h m =
      let f = found bs n i x s z h in
      let e = unique (lefts bs) (rights bs) n (omega arith) (at bs i).children.right tr f.1 sr f.3 in
      omega (arith, f.4 m, parts_le m i f.0 f.1, ap (count m) e)

  split : (k : ℕ) (a c : Tree) → (k ≡ i → ⊥) → ((m : ℕ) → count m (node k a c) ≤ 1) → Sp bs n (lefts bs k) a → Sp bs n (rights bs k) c
      → Apart i tr (node k a c) → (count k tr ≡ 0) × Apart i tr a × Apart i tr c
  split k a c d u sa sc (inr h) =
      (omega (arith, h k, own k a c), inr (λ m. omega (arith, h m, parts_le m k a c)), inr (λ m. omega (arith, h m, parts_le m k a c)))
  split k a c d u sa sc (inl h) = elim (cases_lt 0 (count i a)) [
    | inl p ↦
        let w = subtree_le (lefts bs k) a sa p in
        (omega (arith, w k, u k, own k a c), inl p, inr (λ m. omega (arith, w m, u m, parts_le m k a c)))
    | inr p ↦
        let q : 0 < count i c = omega (arith, others i k a c (λ e. d (sym e))) in
        let w = subtree_le (rights bs k) c sc q in
        (omega (arith, w k, u k, own k a c), inr (λ m. omega (arith, w m, u m, parts_le m k a c)), inl q)
  ]

module _ (bs es : List Block) (n i t : ℕ) (tl tr : Tree) (small : n ≤ 512) (hi : i < n)
    (sl : Sp bs n (at bs i).children.left tl) (sr : Sp bs n (at bs i).children.right tr) (J : Sp es n t (join tl tr))
    (P : (m : ℕ) → m < n → (m ≡ i → ⊥) → count m tr ≡ 0 → (lefts es m ≡ point i t (lefts bs m)) × (rights es m ≡ point i t (rights bs m))) where
  taking : (x : ℕ) (s : Tree) → ((m : ℕ) → count m s ≤ 1) → Apart i tr s → Sp bs n x s → Sp es n (point i t x) (take_out i s)
  unfolding take_out
  taking x empty u e s = cond-false _ _ _ (ne_eqb x i (λ p. omega (arith, s))) ∙ s
  taking x (node k a c) u e s =
      let ua : (m : ℕ) → count m a ≤ 1 = λ m. omega (arith, u m, parts_le m k a c) in
      let uc : (m : ℕ) → count m c ≤ 1 = λ m. omega (arith, u m, parts_le m k a c) in
      elim (cases_eq k i) [
        | inl p ↦
            let ea = unique (lefts bs) (rights bs) n (omega arith) (at bs i).children.left a tl (subst (λ q. Sp bs n (lefts bs q) a) p s.2) sl in
            let ec = unique (lefts bs) (rights bs) n (omega arith) (at bs i).children.right c tr (subst (λ q. Sp bs n (rights bs q) c) p s.3) sr in
            let e1 : take_out i (node k a c) ≡ join tl tr = cond-true _ _ _ (eq-eqb k i p) ∙ cc in
            let e2 : point i t x ≡ t = cond-true _ _ _ (eq-eqb x i (s.0 ∙ p)) in
            subst (λ z. Sp es n z (take_out i (node k a c))) (sym e2) (subst (λ w. Sp es n t w) (sym e1) J)
        | inr d ↦
            let g = split bs n i tr small sr k a c d u s.2 s.3 e in
            let f = P k s.1 d g.0 in
            let e1 : take_out i (node k a c) ≡ node k (take_out i a) (take_out i c) = cond-false _ _ _ (ne_eqb k i d) in
            let e2 : point i t x ≡ k = cond-false _ _ _ (ne_eqb x i (λ q. d (sym s.0 ∙ q))) ∙ s.0 in
            let sa = taking (lefts bs k) a ua g.1 s.2 in
            let sc = taking (rights bs k) c uc g.2 s.3 in
            subst (λ w. Sp es n (point i t x) w) (sym e1)
            (e2, s.1, subst (λ z. Sp es n z (take_out i a)) (sym f.0) sa, subst (λ z. Sp es n z (take_out i c)) (sym f.1) sc)
      ]

-- the join in the table
joins : (bs : List Block) (n l r : ℕ) (tl tr : Tree) → n ≤ 512 → length bs ≡ n → Sp bs n l tl → Sp bs n r tr
    → ((m : ℕ) → count m tl + count m tr ≤ 1)
    → Sp (joined l r bs) n (heir l r) (join tl tr) × ((m : ℕ) → count m tr ≡ 0 → at (joined l r bs) m ≡ at bs m)
unfolding join
joins bs n l r tl empty a b sl sr u =
    let e1 : joined l r bs ≡ bs = cond-true _ _ _ (eq-eqb r 65535 sr) in
    let e2 : heir l r ≡ l = cond-true _ _ _ (eq-eqb r 65535 sr) in
    (subst (λ cs. Sp cs n (heir l r) tl) (sym e1) (subst (λ z. Sp bs n z tl) (sym e2) sl), λ m z. ap (λ cs. at cs m) e1)
joins bs n l r empty (node j x y) a b sl sr u =
    let ne : r ≡ 65535 → ⊥ = λ e. omega (arith, sr.0, sr.1) in
    let e1 : joined l r bs ≡ bs = cond-false _ _ _ (ne_eqb r 65535 ne) ∙ cond-true _ _ _ (eq-eqb l 65535 sl) in
    let e2 : heir l r ≡ r = cond-false _ _ _ (ne_eqb r 65535 ne) in
    (subst (λ cs. Sp cs n (heir l r) (node j x y)) (sym e1) (subst (λ z. Sp bs n z (node j x y)) (sym e2) sr), λ m z. ap (λ cs. at cs m) e1)
joins bs n l r (node i v w) (node j x y) a b sl sr u =
    let nr : r ≡ 65535 → ⊥ = λ e. omega (arith, sr.0, sr.1) in
    let nl : l ≡ 65535 → ⊥ = λ e. omega (arith, sl.0, sl.1) in
    let e1 : joined l r bs ≡ lowered (length bs) l j bs = cond-false _ _ _ (ne_eqb r 65535 nr) ∙ cond-false _ _ _ (ne_eqb l 65535 nl) ∙ ap (λ z. lowered (length bs) l z bs) sr.0 in
    let e2 : heir l r ≡ j = cond-false _ _ _ (ne_eqb r 65535 nr) ∙ sr.0 in
    let z = size_le (lefts bs) (rights bs) n r (node j x y) sr (λ m. omega (arith, u m)) in
    let g = lowers n (length bs) bs l (node i v w) j x y a b (omega (arith, size_node j x y)) sl sr.1 sr.2 sr.3 u in (
      subst (λ cs. Sp cs n (heir l r) (node j (node i v w) (join x y))) (sym e1) (subst (λ z. Sp (lowered (length bs) l j bs) n z (node j (node i v w) (join x y))) (sym e2) g.0),
      λ m q. ap (λ cs. at cs m) e1 ∙ g.1 m q,
    )

-- the whole edit
module _ (i : ℕ) (bs : List Block) where
  abbrev l : ℕ
  l = (at bs i).children.left

  abbrev r : ℕ
  r = (at bs i).children.right

  abbrev led : List Block
  led = map (relinked (point i (heir l r))) (joined l r bs)

  by_long : length (taken_by i l r bs) ≡ length bs
  by_long = length-set _ i _ ∙ length-map (joined l r bs) (relinked (point i (heir l r))) ∙ joined_long l r bs

  led_part : {X : Type 0} (f : Block → X) → Linkless f → (m : ℕ) → f (at led m) ≡ f (at bs m)
  led_part f s m = map_part f (relinked (point i (heir l r))) (λ b. s _ b) (joined l r bs) m ∙ joined_part f s l r bs m

  by_keeps : Keeps bs (taken_by i l r bs)
  by_keeps = record {
    long = by_long;
    sizes = λ k. set_part (λ b. b.size) led i k (cleared (at led i)) refl ∙ led_part (λ b. b.size) (λ c b. refl) k;
    letters = λ k. set_part (λ b. b.letter) led i k (cleared (at led i)) refl ∙ led_part (λ b. b.letter) (λ c b. refl) k;
  }

  taken_keeps : Keeps bs (taken i bs)
  taken_keeps = go (within i bs)
    where
      go : (w : Bool) → Keeps bs (cond w (taken_by i l r bs) bs)
      go true = by_keeps
      go false = record { long = refl; sizes = λ k. refl; letters = λ k. refl }

  module _ (hi : i < length bs) where
    taken_is : taken_by i l r bs ≡ taken i bs
    taken_is = sym (cond-true _ _ _ (lt-ltb i (length bs) hi))

    taken_root_is : (root : ℕ) → point i (heir l r) root ≡ taken_root i root bs
    taken_root_is root = sym (cond-true _ _ _ (lt-ltb i (length bs) hi))

    at_taken : (m : ℕ) → m < length bs → (m ≡ i → ⊥) → at (taken_by i l r bs) m ≡ relinked (point i (heir l r)) (at (joined l r bs) m)
    at_taken m h d =
        let k = joined_long l r bs in
        get_or-set_other led i m _ blank d ∙ get_or-map (relinked (point i (heir l r))) (joined l r bs) m blank blank (omega arith)

    own_absent : (at (taken_by i l r bs) i).present ≡ false
    own_absent =
        let k = joined_long l r bs in
        let n = length-map (joined l r bs) (relinked (point i (heir l r))) in
        ap (λ b. b.present) (get_or-set_same led i (cleared (at led i)) blank (omega arith))

    others_present : (m : ℕ) → (m ≡ i → ⊥) → (at (taken_by i l r bs) m).present ≡ (at bs m).present
    others_present m d = ap (λ b. b.present) (get_or-set_other led i m _ blank d) ∙ led_part (λ b. b.present) (λ c b. refl) m

    by_holds : (root : ℕ) (t : Tree) → Holds bs root t → 0 < count i t → Holds (taken_by i l r bs) (point i (heir l r) root) (take_out i t)
    by_holds root t h p =
        let n = length bs in
        let small = h.few in
        let es = taken_by i l r bs in
        let ct : (m : ℕ) → count m t ≤ 1 = at_most_once h in
        let f = found bs n i root t h.spelt p in
        let tl = f.0 in
        let tr = f.1 in
        let j = joins bs n l r tl tr small refl f.2 f.3 (λ m. omega (arith, f.4 m, ct m, parts_le m i tl tr)) in
        let zi : count i (join tl tr) ≡ 0 = omega (arith, join_count i tl tr, own i tl tr, f.4 i, ct i) in
        let J = repoint (lefts (joined l r bs)) (rights (joined l r bs)) (lefts es) (rights es) n i (heir l r) (heir l r) (join tl tr) (omega arith) hi zi
        (λ m b c. let e = at_taken m b (not_in i m (join tl tr) zi c) in (ap (λ b. b.children.left) e, ap (λ b. b.children.right) e)) j.0 in
        let P : (m : ℕ) → m < n → (m ≡ i → ⊥) → count m tr ≡ 0 → (lefts es m ≡ point i (heir l r) (lefts bs m)) × (rights es m ≡ point i (heir l r) (rights bs m))
        = λ m b d z. let e = at_taken m b d ∙ ap (relinked (point i (heir l r))) (j.1 m z) in (ap (λ b. b.children.left) e, ap (λ b. b.children.right) e) in
        let s = taking bs es n i (heir l r) tl tr small hi f.2 f.3 J P root t ct (inl p) h.spelt in
        record {
          few = omega (arith, by_long);
          spelt = subst (λ k. Sp es k (point i (heir l r) root) (take_out i t)) (sym by_long) s;
          once = λ m. elim (cases_eq m i) [
            | inl e ↦ ap (λ q. count q (take_out i t)) e ∙ take_out_own i t (ct i) ∙ sym (ap {B = ℕ} (λ b. cond b 1 0) (ap (λ q. (at es q).present) e ∙ own_absent))
            | inr d ↦ take_out_others m i t d ∙ h.once m ∙ ap {B = ℕ} (λ b. cond b 1 0) (sym (others_present m d))
          ];
        }

  taken_holds : (root : ℕ) (t : Tree) → Holds bs root t → 0 < count i t → Holds (taken i bs) (taken_root i root bs) (take_out i t)
  taken_holds root t h p =
      let hi = in_tree_within h i p in
      subst (λ x. Holds x (taken_root i root bs) (take_out i t)) (taken_is hi)
      (subst (λ x. Holds (taken_by i l r bs) x (take_out i t)) (taken_root_is hi root) (by_holds hi root t h p))

  -- what the table without i keeps
  pub take_keeps : (cs : List Block) → cs ≡ taken i bs → Keeps bs cs
  take_keeps cs e = subst (Keeps bs) (sym e) taken_keeps

  -- and the tree that it holds
  pub take_holds : (root : ℕ) (cs : List Block) (k : ℕ) → cs ≡ taken i bs → k ≡ taken_root i root bs
      → (t : Tree) → Holds bs root t → 0 < count i t → Holds cs k (take_out i t)
  take_holds root cs k e f t h p =
      subst (λ x. Holds x k (take_out i t)) (sym e) (subst (λ x. Holds (taken i bs) x (take_out i t)) (sym f) (taken_holds root t h p))
