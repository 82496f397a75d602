-- What holds of placed blocks, said of their records.
use Rattle.std.proofs.Common.{◌≡◌, ℕ, ◌+◌, ◌<◌, ◌≤◌, true, ◌≢◌, ◌⊎◌, List, sym, ap, ◌∙◌, subst, inl, inr, arith}
use Rattle.rules.specs.declared.placements.Placement.{Placement}
use Rattle.rules.specs.declared.edits.Side.{Side}
use Rattle.rules.specs.declared.edits.Side.TheVariants.{Left, Right}
use Rattle.rules.specs.Trees.{Tree, empty, node, Among, blocks, leftmost, rightmost, right_foot, bottom_right, no_right_child}
use Rattle.rules.specs.Plans.{Plan, Whole, block_count, size_at}
use Rattle.rules.specs.Packing.{Rect, packed, column}
use Rattle.geometry.specs.Relations as rects
use Rattle.geometry.specs.Relations.{Root, Child}
use Rattle.geometry.proofs.Members.{among_left, among_right}
use Rattle.geometry.proofs.Standing.{no_overlap_by_number, all_stand_by_number, column_of_tops, packed_blocks}
use Rattle.geometry.proofs.Edges.{root_among, child_among, edges_of_children, rightmost_in, rightmost_at_left}
use Rattle.geometry.proofs.Branches.{leftmost_on_floor, bottom_right_free}
use Rattle.promises.specs.Promise.{at, Placed, Spans, Covers, Meets, On, Over, HighestTop}
use Rattle.promises.proofs.Sides.{Sided}
use Rattle.promises.proofs.Records.{Recorded, Standing, of_rect, of_listed, of_placed}

-- the blocks of the branches stand in the tree
leftmost_in : (t : Tree) (i : ℕ) → Among i (leftmost t) → Among i (blocks t)
leftmost_in empty i m = m
leftmost_in (node j l r) i (inl e) = inl e
leftmost_in (node j l r) i (inr m) = inr (among_left i (blocks l) (blocks r) (leftmost_in l i m))

foot_in : (t : Tree) (i : ℕ) → Among i (blocks (right_foot t)) → Among i (blocks t)
foot_in empty i m = m
foot_in (node k l empty) i m = m
foot_in (node k l (node j a b)) i m = inr (among_right i (blocks l) (blocks (node j a b)) (foot_in (node j a b) i m))

-- The relations of placed blocks are those of their records.
module _ (p : Plan) (rs : List Placement) where
  spans_of : (i c : ℕ) (f : Standing p rs i) → Spans (at rs i) c → rects.Spans f.rect c
  spans_of i c f s = let k = subst (λ (r : Placement). Spans r c) f.shows s in record { starts = k.0; ends = k.1 }

  spans_shown : (i c : ℕ) (f : Standing p rs i) → rects.Spans f.rect c → Spans (at rs i) c
  spans_shown i c f s = subst (λ (r : Placement). Spans r c) (sym f.shows) (s.starts, s.ends)

  holds_of : (i c d : ℕ) (f : Standing p rs i) → Covers (at rs i) c d → rects.Holds f.rect c d
  holds_of i c d f s =
      let k = subst (λ (r : Placement). Covers r c d) f.shows s in
      record { across = spans_of i c f s.0; from_bottom = k.1; to_top = k.2 }

  pub size_is : (i : ℕ) (f : Standing p rs i)
      → ((at rs i).width ≡ (size_at p.sizes i).width) × ((at rs i).height ≡ (size_at p.sizes i).height)
  size_is i f = (
    ap (λ (r : Placement). r.width) f.shows ∙ (packed_blocks p).widths f.rect f.among ∙ ap (λ (k : ℕ). (size_at p.sizes k).width) f.number,
    ap (λ (r : Placement). r.height) f.shows ∙ (packed_blocks p).heights f.rect f.among ∙ ap (λ (k : ℕ). (size_at p.sizes k).height) f.number,
  )

  pub top_is : (i : ℕ) (f : Standing p rs i) → (at rs i).y + (at rs i).height ≡ f.rect.y + f.rect.height
  top_is i f = ap (λ (r : Placement). r.y + r.height) f.shows

  pub meets_shown : (i j : ℕ) (f : Standing p rs i) (g : Standing p rs j) → rects.Meets f.rect g.rect → Meets (at rs i) (at rs j)
  meets_shown i j f g m = (m.shared, spans_shown i m.shared f m.of_first, spans_shown j m.shared g m.of_second)

  on_shown : (i j : ℕ) (f : Standing p rs i) (g : Standing p rs j) → rects.On f.rect g.rect → On (at rs i) (at rs j)
  on_shown i j f g o = (meets_shown i j f g o.meets, ap (λ (r : Placement). r.y) f.shows ∙ o.touches ∙ sym (top_is j g))

  pub meets_of : (i j : ℕ) (f : Standing p rs i) (g : Standing p rs j) → Meets (at rs i) (at rs j) → rects.Meets f.rect g.rect
  meets_of i j f g m = record { shared = m.0; of_first = spans_of i m.0 f m.1; of_second = spans_of j m.0 g m.2 }

  over_of : (i j : ℕ) (f : Standing p rs i) (g : Standing p rs j) → Over (at rs i) (at rs j) → rects.Over f.rect g.rect
  over_of i j f g o =
      record { meets = meets_of i j f g o.0; above = omega (arith, o.1, top_is j g, ap (λ (r : Placement). r.y) f.shows) }

-- The packing of p, a plan of n blocks, by the numbers of its blocks.
module _ (p : Plan) (w : Whole p) (n : ℕ) (same : block_count p ≡ n) (rs : List Placement) (h : Recorded p rs) where
  placed : (i : ℕ) → i < n → Placed (at rs i) → Standing p rs i
  placed i b k = of_placed p w rs h i (omega (arith, same)) k

  pub apart : (i j : ℕ) → i < n → j < n → i ≢ j → (c d : ℕ) → Covers (at rs i) c d → Covers (at rs j) c d → ⊥
  apart i j a b ne c d k l =
      let f = placed i a (omega (arith, k.0.0, k.0.1)) in
      let g = placed j b (omega (arith, l.0.0, l.0.1)) in
      no_overlap_by_number p f.rect g.rect f.among g.among (λ e. ne (sym f.number ∙ e ∙ g.number)) c d
      (holds_of p rs i c d f k) (holds_of p rs j c d g l)

  pub stands : (i : ℕ) → i < n → Placed (at rs i)
      → ((at rs i).y ≡ 0) ⊎ ((j : ℕ) × (j < n) × (j ≢ i) × Placed (at rs j) × On (at rs i) (at rs j))
  stands i b k = go (all_stand_by_number p w f.rect f.among)
    where
      f : Standing p rs i
      f = placed i b k

      go : rects.StandsOnAnother (packed p) f.rect → ((at rs i).y ≡ 0) ⊎ ((j : ℕ) × (j < n) × (j ≢ i) × Placed (at rs j) × On (at rs i) (at rs j))
      go (inl z) = inl (ap (λ (r : Placement). r.y) f.shows ∙ z)
      go (inr (q, m, ne, o)) =
          let g = of_rect p w rs h q m in
          let on = on_shown p rs i q.block f g o in
          inr (q.block, omega (arith, same, g.within), (λ e. ne (e ∙ sym f.number)), omega (arith, on.0.2.0, on.0.2.1), on)

  pub highest_top : (c : ℕ) → HighestTop n rs c (column (packed p) c)
  highest_top c = record { bounds = over; reached = go (column_of_tops (packed p) c).reached }
    where
      over : (i : ℕ) → i < n → Spans (at rs i) c → (at rs i).y + (at rs i).height ≤ column (packed p) c
      over i b s =
          let f = placed i b (omega (arith, s.0, s.1)) in
          omega (arith, top_is p rs i f, (column_of_tops (packed p) c).bounds f.rect f.among (spans_of p rs i c f s))

      go : (column (packed p) c ≡ 0) ⊎ ((q : Rect) × Among q (packed p) × rects.Spans q c × (q.y + q.height ≡ column (packed p) c))
          → (column (packed p) c ≡ 0) ⊎ ((i : ℕ) × (i < n) × Spans (at rs i) c × ((at rs i).y + (at rs i).height ≡ column (packed p) c))
      go (inl z) = inl z
      go (inr (q, m, s, t)) =
          let g = of_rect p w rs h q m in
          inr (q.block, omega (arith, same, g.within), spans_shown p rs q.block c g s, top_is p rs q.block g ∙ t)

  pub floor : (i : ℕ) → Among i (leftmost p.tree) → (at rs i).y ≡ 0
  floor i m =
      let f = of_listed p w rs h i (leftmost_in p.tree i m) in
      ap (λ (r : Placement). r.y) f.shows
      ∙ leftmost_on_floor p w f.rect f.among (subst (λ (k : ℕ). Among k (leftmost p.tree)) (sym f.number) m)

  pub left_edge : (i : ℕ) → Among i (rightmost p.tree) → (at rs i).x ≡ 0
  left_edge i m =
      let f = of_listed p w rs h i (rightmost_in p.tree i m) in
      ap (λ (r : Placement). r.x) f.shows
      ∙ rightmost_at_left p w f.rect f.among (subst (λ (k : ℕ). Among k (rightmost p.tree)) (sym f.number) m)

  pub free : Sided p → no_right_child (right_foot p.tree) ≡ true → (i j : ℕ) → Among i (bottom_right p.tree)
      → j < n → Placed (at rs j) → Over (at rs j) (at rs i) → ⊥
  free s none i j m b k o =
      let f = of_listed p w rs h i (foot_in p.tree i (leftmost_in (right_foot p.tree) i m)) in
      let g = placed j b k in
      bottom_right_free p w (λ v c. (s v (w.known v c)).1) none f.rect f.among
      (subst (λ (v : ℕ). Among v (bottom_right p.tree)) (sym f.number) m) g.rect g.among (over_of p rs j i g f o)

-- The left edges follow the tree.
module _ (p : Plan) (w : Whole p) (rs : List Placement) (h : Recorded p rs) where
  pub root_left : (i : ℕ) → Root p.tree i → (at rs i).x ≡ 0
  root_left i m =
      let f = of_listed p w rs h i (root_among p.tree i m) in
      ap (λ (r : Placement). r.x) f.shows ∙ (edges_of_children p w).root f.rect f.among (subst (Root p.tree) (sym f.number) m)

  -- a child and its parent as placed
  family : (a : Side) (i j : ℕ) → Child a p.tree i j → (f : Standing p rs i) × (g : Standing p rs j) × Child a p.tree f.rect.block g.rect.block
  family a i j c =
      let m = child_among a p.tree i j c in
      let f = of_listed p w rs h i m.0 in
      let g = of_listed p w rs h j m.1 in
      (f, g, subst (λ (v : ℕ). Child a p.tree f.rect.block v) (sym g.number) (subst (λ (v : ℕ). Child a p.tree v j) (sym f.number) c))

  pub left_child : (i j : ℕ) → Child Left p.tree i j → (at rs j).x ≡ (at rs i).x + (at rs i).width
  left_child i j c =
      let (f, g, k) = family Left i j c in
      ap (λ (r : Placement). r.x) g.shows ∙ (edges_of_children p w).left f.rect g.rect f.among g.among k
      ∙ sym (ap (λ (r : Placement). r.x + r.width) f.shows)

  pub right_child : (i j : ℕ) → Child Right p.tree i j → (at rs j).x ≡ (at rs i).x
  right_child i j c =
      let (f, g, k) = family Right i j c in
      ap (λ (r : Placement). r.x) g.shows ∙ (edges_of_children p w).right f.rect g.rect f.among g.among k
      ∙ sym (ap (λ (r : Placement). r.x) f.shows)
