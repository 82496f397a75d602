-- Two packings of one plan are the same.
use Rattle.std.proofs.Common.{◌≡◌, ℕ, ◌+◌, ◌≤◌, List, [], ◌∷◌, ◌++◌, sym, refl, ap, ◌∙◌, subst, inl, inr, arith}
use Rattle.std.proofs.lemmas.List.{append_assoc, ext_get_or}
use Rattle.std.proofs.lemmas.Bool.{cases_lt}
use Rattle.rules.specs.declared.placements.Placement.{Placement}
use Rattle.rules.specs.declared.edits.Side.{Side}
use Rattle.rules.specs.declared.edits.Side.TheVariants.{Left, Right}
use Rattle.rules.specs.Trees.{Tree, empty, node, count, blocks, Among, Distinct}
use Rattle.rules.specs.Plans.{Plan, Whole}
use Rattle.geometry.specs.Relations.{Root, Child}
use Rattle.geometry.proofs.Members.{among_split, among_left, among_right}
use Rattle.geometry.proofs.Once.{counted_among, whole_distinct}
use Rattle.promises.specs.Packs.{nowhere}
use Rattle.promises.specs.Promise.{at, Spans}
use Rattle.promises.specs.Relation.{Before, top_of, Rests, LargestOf, Packing}
use Rattle.promises.proofs.Before.{in_front}

same_placement : (a b : Placement) → a.x ≡ b.x → a.y ≡ b.y → a.width ≡ b.width → a.height ≡ b.height → a ≡ b
same_placement a b p q r s =
    let made : ℕ → ℕ → ℕ → ℕ → Placement = λ x y w h. record { x = x; y = y; width = w; height = h } in
    let e : made a.x a.y a.width a.height ≡ made b.x b.y b.width b.height = cc in e

-- where the records before j are equal, j rests on the same height
rests_below : (t : Tree) (rs ss : List Placement) (j y z : ℕ) → Rests t rs j y → Rests t ss j z
    → ((i : ℕ) → Before i j (blocks t) → at rs i ≡ at ss i) → (at rs j).x ≡ (at ss j).x → (at rs j).width ≡ (at ss j).width → y ≤ z
rests_below t rs ss j y z a b alike x w = elim a.reached [
  | inl e ↦ omega arith
  | inr (i, before, (c, on_i, on_j), top) ↦
      let same = alike i before in
      let over = b.bounds i before (c, subst (λ (r : Placement). Spans r c) same on_i, (omega (arith, on_j.0), omega (arith, on_j.0, on_j.1))) in
      omega (arith, over, ap top_of same, top)
]

largest_below : (t : Tree) (f : ℕ → ℕ) (v w : ℕ) → LargestOf t f v → LargestOf t f w → v ≤ w
largest_below t f v w a b = elim a.reached [ inl e ↦ omega arith | inr (i, m, e) ↦ omega (arith, b.bounds i m, e) ]

module _ (p : Plan) (w : Whole p) (rs ss : List Placement) (wide high wide' high' : ℕ) (a : Packing p wide high rs) (b : Packing p wide' high' ss) where
  same_width : (i : ℕ) → Among i (blocks p.tree) → (at rs i).width ≡ (at ss i).width
  same_width i m = (a.sized i m).0 ∙ sym (b.sized i m).0

  -- in each subtree, left edges follow from that of its root
  same_lefts : (t : Tree) → ((s : Side) (i j : ℕ) → Child s t i j → Child s p.tree i j) → ((i : ℕ) → Among i (blocks t) → Among i (blocks p.tree))
      → ((i : ℕ) → Root t i → (at rs i).x ≡ (at ss i).x) → (i : ℕ) → Among i (blocks t) → (at rs i).x ≡ (at ss i).x
  same_lefts empty child part root i m = absurd m
  same_lefts (node k l r) child part root i (inl e) = root i e
  same_lefts (node k l r) child part root i (inr m) =
      let x = root k refl in
      let same = same_width k (part k (inl refl)) in
      elim (among_split i (blocks l) (blocks r) m) [
        | inl n ↦
            same_lefts l (λ s u v h. child s u v (inr (inl h))) (λ u h. part u (inr (among_left u (blocks l) (blocks r) h)))
            (λ u h. let c = child Left k u (inl (refl, h)) in omega (arith, a.left k u c, b.left k u c)) i n
        | inr n ↦
            same_lefts r (λ s u v h. child s u v (inr (inr h))) (λ u h. part u (inr (among_right u (blocks l) (blocks r) h)))
            (λ u h. let c = child Right k u (inl (refl, h)) in omega (arith, a.right k u c, b.right k u c)) i n
      ]

  same_left : (i : ℕ) → Among i (blocks p.tree) → (at rs i).x ≡ (at ss i).x
  same_left = same_lefts p.tree (λ s i j c. c) (λ i m. m) (λ i h. a.root i h ∙ sym (b.root i h))

  -- behind blocks with equal records, the next block in depth-first order has equal records too
  same_next : (ds : List ℕ) (j : ℕ) (js : List ℕ) → blocks p.tree ≡ ds ++ (j ∷ js)
      → ((i : ℕ) → Among i ds → at rs i ≡ at ss i) → at rs j ≡ at ss j
  same_next ds j js e h =
      let m : Among j (blocks p.tree) = subst (Among j) (sym e) (among_right j ds (j ∷ js) (inl refl)) in
      let d : Distinct (ds ++ (j ∷ js)) = subst Distinct e (whole_distinct p w) in
      let before : (i : ℕ) → Before i j (blocks p.tree) → at rs i ≡ at ss i = λ i k. h i (in_front i j ds js d (subst (Before i j) e k)) in
      let x = same_left j m in
      let same = same_width j m in
      let le = rests_below p.tree rs ss j (at rs j).y (at ss j).y (a.rests j m) (b.rests j m) before x same in
      let ge = rests_below p.tree ss rs j (at ss j).y (at rs j).y (b.rests j m) (a.rests j m) (λ i k. sym (before i k)) (sym x) (sym same) in
      same_placement (at rs j) (at ss j) x (omega arith) same ((a.sized j m).1 ∙ sym (b.sized j m).1)

  same_from : (ds js : List ℕ) → blocks p.tree ≡ ds ++ js → ((i : ℕ) → Among i ds → at rs i ≡ at ss i)
      → (i : ℕ) → Among i js → at rs i ≡ at ss i
  same_from ds [] e h i m = absurd m
  same_from ds (j ∷ js) e h i (inl k) = subst (λ (v : ℕ). at rs v ≡ at ss v) (sym k) (same_next ds j js e h)
  same_from ds (j ∷ js) e h i (inr m) =
      same_from (ds ++ (j ∷ [])) js (e ∙ sym (append_assoc ds (j ∷ []) js))
      (λ v n. elim (among_split v ds (j ∷ []) n) [
        | inl k ↦ h v k
        | inr (inl k) ↦ subst (λ (v : ℕ). at rs v ≡ at ss v) (sym k) (same_next ds j js e h)
        | inr (inr k) ↦ absurd k
      ]) i m

  same_at : (i : ℕ) → at rs i ≡ at ss i
  same_at i = elim (cases_lt 0 (count i p.tree)) [
    | inl c ↦ same_from [] (blocks p.tree) refl (λ k m. absurd m) i (counted_among i p.tree c)
    | inr c ↦ let z : count i p.tree ≡ 0 = omega arith in a.absent i z ∙ sym (b.absent i z)
  ]

  same_records : rs ≡ ss
  same_records = ext_get_or nowhere rs ss (a.long ∙ sym b.long) (λ i h. same_at i)

  pub same_packing : (rs ≡ ss) × (wide ≡ wide') × (high ≡ high')
  same_packing =
      let e = same_records in
      let reach = subst (λ (l : List Placement). LargestOf p.tree (λ i. (at l i).x + (at l i).width) wide') (sym e) b.reach in
      let tops = subst (λ (l : List Placement). LargestOf p.tree (λ i. top_of (at l i)) high') (sym e) b.highest in (
        e,
        omega (arith, largest_below p.tree _ wide wide' a.reach reach, largest_below p.tree _ wide' wide reach a.reach),
        omega (arith, largest_below p.tree _ high high' a.highest tops, largest_below p.tree _ high' high tops a.highest),
      )
