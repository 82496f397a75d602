-- Left edges follow the tree.
use Rattle.std.proofs.Common.{◌≡◌, ℕ, ◌+◌, List, ◌++◌, sym, ap, ◌∙◌, subst, inl, inr}
use Rattle.rules.specs.declared.blocks.Size.{Size}
use Rattle.rules.specs.declared.edits.Side.{Side}
use Rattle.rules.specs.declared.edits.Side.TheVariants.{Left, Right}
use Rattle.rules.specs.Trees.{Tree, empty, node, blocks, Among, Distinct, rightmost}
use Rattle.rules.specs.Plans.{Plan, Whole, size_at}
use Rattle.rules.specs.Packing.{Spot, spots, Rect, packed}
use Rattle.geometry.specs.Relations.{Root, on_side, Child}
use Rattle.geometry.specs.Laws.{RightmostAtLeft, EdgesOfChildren}
use Rattle.geometry.proofs.Members.{among_split, among_left, among_right, distinct_split}
use Rattle.geometry.proofs.Once.{whole_distinct}
use Rattle.geometry.proofs.Settling.{spot_among, From, packed_from}

-- In a tree without repetition the number of a spot tells where in the tree it comes from.
module _ (sizes : List Size) (k : ℕ) (l r : Tree) (x : ℕ) (d : Distinct (blocks (node k l r))) (s : Spot) where
  pub spot_at_root : Among s (spots sizes (node k l r) x) → s.block ≡ k → s.left ≡ x
  spot_at_root (inl e) b = ap (λ (v : Spot). v.left) e
  spot_at_root (inr m) b =
      let h : Among s.block (blocks l ++ blocks r)
      = elim (among_split s (spots sizes l (x + (size_at sizes k).width)) (spots sizes r x) m) [
        | inl h ↦ among_left s.block (blocks l) (blocks r) (spot_among sizes l (x + (size_at sizes k).width) s h)
        | inr h ↦ among_right s.block (blocks l) (blocks r) (spot_among sizes r x s h)
      ] in
      absurd (d.0 (subst (λ (j : ℕ). Among j (blocks l ++ blocks r)) b h))

  pub spot_at_left : Among s (spots sizes (node k l r) x) → Among s.block (blocks l) → Among s (spots sizes l (x + (size_at sizes k).width))
  spot_at_left (inl e) b = absurd (d.0 (subst (λ (v : Spot). Among v.block (blocks l ++ blocks r)) e (among_left s.block (blocks l) (blocks r) b)))
  spot_at_left (inr m) b = elim (among_split s (spots sizes l (x + (size_at sizes k).width)) (spots sizes r x) m) [
    | inl h ↦ h
    | inr h ↦ absurd ((distinct_split (blocks l) (blocks r) d.1).apart s.block b (spot_among sizes r x s h))
  ]

  pub spot_at_right : Among s (spots sizes (node k l r) x) → Among s.block (blocks r) → Among s (spots sizes r x)
  spot_at_right (inl e) b = absurd (d.0 (subst (λ (v : Spot). Among v.block (blocks l ++ blocks r)) e (among_right s.block (blocks l) (blocks r) b)))
  spot_at_right (inr m) b = elim (among_split s (spots sizes l (x + (size_at sizes k).width)) (spots sizes r x) m) [
    | inl h ↦ absurd ((distinct_split (blocks l) (blocks r) d.1).apart s.block (spot_among sizes l (x + (size_at sizes k).width) s h) b)
    | inr h ↦ h
  ]

pub root_among : (t : Tree) (i : ℕ) → Root t i → Among i (blocks t)
root_among empty i h = absurd h
root_among (node k l r) i e = inl e

root_left : (sizes : List Size) (t : Tree) (x : ℕ) → Distinct (blocks t)
    → (s : Spot) → Among s (spots sizes t x) → Root t s.block → s.left ≡ x
root_left sizes empty x d s m h = absurd m
root_left sizes (node k l r) x d s m e = spot_at_root sizes k l r x d s m e

-- a child and its parent stand in the tree
pub child_among : (a : Side) (t : Tree) (i j : ℕ) → Child a t i j → Among i (blocks t) × Among j (blocks t)
child_among a empty i j c = absurd c
child_among a (node k l r) i j (inl (e, h)) = (inl e, inr (go a h))
  where
    go : (b : Side) → Root (on_side b l r) j → Among j (blocks l ++ blocks r)
    go Left n = among_left j (blocks l) (blocks r) (root_among l j n)
    go Right n = among_right j (blocks l) (blocks r) (root_among r j n)
child_among a (node k l r) i j (inr (inl c)) =
    let h = child_among a l i j c in
    (inr (among_left i (blocks l) (blocks r) h.0), inr (among_left j (blocks l) (blocks r) h.1))
child_among a (node k l r) i j (inr (inr c)) =
    let h = child_among a r i j c in
    (inr (among_right i (blocks l) (blocks r) h.0), inr (among_right j (blocks l) (blocks r) h.1))

-- the left edge of the child on that side of block i at x
abbrev child_edge : List Size → Side → ℕ → ℕ → ℕ
child_edge sizes Left i x = x + (size_at sizes i).width
child_edge sizes Right i x = x

-- the root's own child
root_child_left : (sizes : List Size) (a : Side) (k : ℕ) (l r : Tree) (x : ℕ) → Distinct (blocks (node k l r))
    → (v : Spot) → Among v (spots sizes (node k l r) x) → Root (on_side a l r) v.block → v.left ≡ child_edge sizes a k x
root_child_left sizes Left k l r x d v m h =
    root_left sizes l (x + (size_at sizes k).width) (distinct_split (blocks l) (blocks r) d.1).first v
    (spot_at_left sizes k l r x d v m (root_among l v.block h)) h
root_child_left sizes Right k l r x d v m h =
    root_left sizes r x (distinct_split (blocks l) (blocks r) d.1).second v
    (spot_at_right sizes k l r x d v m (root_among r v.block h)) h

child_left : (sizes : List Size) (a : Side) (t : Tree) (x : ℕ) → Distinct (blocks t)
    → (s v : Spot) → Among s (spots sizes t x) → Among v (spots sizes t x) → Child a t s.block v.block
    → v.left ≡ child_edge sizes a s.block s.left
child_left sizes a empty x d s v m n c = absurd c
child_left sizes a (node k l r) x d s v m n (inl (e, h)) =
    let z = spot_at_root sizes k l r x d s m e in
    let f = root_child_left sizes a k l r x d v n h in
    cc
child_left sizes a (node k l r) x d s v m n (inr (inl c)) =
    let h = child_among a l s.block v.block c in
    child_left sizes a l (x + (size_at sizes k).width) (distinct_split (blocks l) (blocks r) d.1).first s v
    (spot_at_left sizes k l r x d s m h.0) (spot_at_left sizes k l r x d v n h.1) c
child_left sizes a (node k l r) x d s v m n (inr (inr c)) =
    let h = child_among a r s.block v.block c in
    child_left sizes a r x (distinct_split (blocks l) (blocks r) d.1).second s v
    (spot_at_right sizes k l r x d s m h.0) (spot_at_right sizes k l r x d v n h.1) c

placed_child : (p : Plan) → Whole p → (a : Side) (q r : Rect) (f : From p.sizes (spots p.sizes p.tree 0) q) → Among r (packed p)
    → Child a p.tree q.block r.block → r.x ≡ child_edge p.sizes a f.spot.block f.spot.left
placed_child p w a q r f n c =
    let g = packed_from p r n in
    sym g.left_is
    ∙ child_left p.sizes a p.tree 0 (whole_distinct p w) f.spot g.spot f.among g.among
    (subst (λ (j : ℕ). Child a p.tree f.spot.block j) (sym g.block_is) (subst (λ (i : ℕ). Child a p.tree i r.block) (sym f.block_is) c))

pub edges_of_children : EdgesOfChildren
edges_of_children p w = record {
  root = λ q m h.
      let f = packed_from p q m in
      sym f.left_is ∙ root_left p.sizes p.tree 0 (whole_distinct p w) f.spot f.among (subst (Root p.tree) (sym f.block_is) h);
  left = λ q r m n c.
      let f = packed_from p q m in
      let e = placed_child p w Left q r f n c in
      cc;
  right = λ q r m n c. let f = packed_from p q m in placed_child p w Right q r f n c ∙ f.left_is;
}

pub rightmost_in : (t : Tree) (i : ℕ) → Among i (rightmost t) → Among i (blocks t)
rightmost_in empty i m = m
rightmost_in (node j l r) i (inl e) = inl e
rightmost_in (node j l r) i (inr m) = inr (among_right i (blocks l) (blocks r) (rightmost_in r i m))

rightmost_left : (sizes : List Size) (t : Tree) (x : ℕ) → Distinct (blocks t)
    → (s : Spot) → Among s (spots sizes t x) → Among s.block (rightmost t) → s.left ≡ x
rightmost_left sizes empty x d s m b = absurd m
rightmost_left sizes (node k l r) x d s m (inl e) = spot_at_root sizes k l r x d s m e
rightmost_left sizes (node k l r) x d s m (inr b) =
    rightmost_left sizes r x (distinct_split (blocks l) (blocks r) d.1).second s (spot_at_right sizes k l r x d s m (rightmost_in r s.block b)) b

pub rightmost_at_left : RightmostAtLeft
rightmost_at_left p w q m b =
    let f = packed_from p q m in
    sym f.left_is
    ∙ rightmost_left p.sizes p.tree 0 (whole_distinct p w) f.spot f.among (subst (λ (i : ℕ). Among i (rightmost p.tree)) (sym f.block_is) b)
