-- What packing gives meets the relation, and nothing else does.
use Rattle.std.proofs.Common.{◌≡◌, ℕ, ◌+◌, ◌≤◌, ◌⊎◌, List, sym, refl, ap, ◌∙◌, subst, inl, inr, arith}
use Rattle.std.proofs.lemmas.List.FromFn.{length-map-range_with_len}
use Rattle.std.proofs.lemmas.List.{get_or_past}
use Rattle.std.proofs.lemmas.Bool.{cases_lt}
use Rattle.rules.specs.declared.placements.Placement.{Placement}
use Rattle.rules.specs.Trees.{count, blocks, Among}
use Rattle.rules.specs.Plans.{Plan, Whole, block_count}
use Rattle.rules.specs.Packing.{Rect, right_edge, top, packed, reach, height}
use Rattle.geometry.specs.Relations.{numbers}
use Rattle.geometry.proofs.Members.{among_map}
use Rattle.geometry.proofs.Once.{counted_among}
use Rattle.geometry.proofs.Settling.{packed_settled, packed_numbers, packed_distinct}
use Rattle.geometry.proofs.Standing.{packed_blocks}
use Rattle.promises.specs.Packs.{nowhere, record_of, placements}
use Rattle.promises.specs.Promise.{at, Meets}
use Rattle.promises.specs.Relation.{Before, top_of, Rests, LargestOf, Packing}
use Rattle.promises.specs.Laws.{OnePacking}
use Rattle.promises.proofs.Records.{shown, placements_recorded, Standing, of_rect, of_listed, of_absent}
use Rattle.promises.proofs.Shown.{size_is, top_is, meets_of, meets_shown, root_left, left_child, right_child}
use Rattle.promises.proofs.Before.{first_in, before_turned, turned_before}
use Rattle.promises.proofs.Resting.{rests_over, RestsOn, rests_on, largest, reach_is, height_is, largest_over, largest_met}
use Rattle.promises.proofs.Unique.{same_packing}

module _ (p : Plan) (w : Whole p) where
  -- the records that packing gives
  abbrev rs : List Placement
  rs = placements p

  standing : (i : ℕ) → Among i (blocks p.tree) → Standing p rs i
  standing = of_listed p w rs (placements_recorded p)

  abbrev rect_standing : (q : Rect) → Among q (packed p) → Standing p rs q.block
  rect_standing = of_rect p w rs (placements_recorded p)

  absent : (i : ℕ) → count i p.tree ≡ 0 → at rs i ≡ nowhere
  absent i z = elim (cases_lt i (block_count p)) [
    | inl b ↦ of_absent p w rs (placements_recorded p) i b z
    | inr b ↦ get_or_past rs i nowhere (omega (arith, length-map-range_with_len (record_of (packed p)) 0 (block_count p)))
  ]

  -- depth-first order, and the order of the placed blocks, which is the other way round
  placed_behind : (i j : ℕ) (f : Standing p rs i) (g : Standing p rs j) → Before i j (blocks p.tree)
      → Before g.rect.block f.rect.block (numbers (packed p))
  placed_behind i j f g b =
      subst (Before g.rect.block f.rect.block) (sym (packed_numbers p)) (before_turned f.rect.block g.rect.block (blocks p.tree)
      (subst (λ (k : ℕ). Before k g.rect.block (blocks p.tree)) (sym f.number) (subst (λ (k : ℕ). Before i k (blocks p.tree)) (sym g.number) b)))

  in_order : (i j : ℕ) → Before j i (numbers (packed p)) → Before i j (blocks p.tree)
  in_order i j b = turned_before i j (blocks p.tree) (subst (Before j i) (packed_numbers p) b)

  rests : (j : ℕ) → Among j (blocks p.tree) → Rests p.tree rs j (at rs j).y
  rests j m = record { bounds = bounds; reached = reached (rests_on (packed p) (packed_settled p) f.rect f.among) }
    where
      f : Standing p rs j
      f = standing j m

      y_is : (at rs j).y ≡ f.rect.y
      y_is = ap (λ (r : Placement). r.y) f.shows

      bounds : (i : ℕ) → Before i j (blocks p.tree) → Meets (at rs i) (at rs j) → top_of (at rs i) ≤ (at rs j).y
      bounds i b k =
          let g = standing i (first_in i j (blocks p.tree) b) in
          let over = rests_over (packed p) (packed_settled p) (packed_distinct p w) f.rect g.rect f.among g.among
          (placed_behind i j g f b) (meets_of p rs i j g f k) in
          omega (arith, over, y_is, top_is p rs i g)

      reached : RestsOn (packed p) f.rect
          → ((at rs j).y ≡ 0) ⊎ ((i : ℕ) × Before i j (blocks p.tree) × Meets (at rs i) (at rs j) × (top_of (at rs i) ≡ (at rs j).y))
      reached (inl z) = inl (y_is ∙ z)
      reached (inr (r, n, b, k, t)) =
          let g = rect_standing r n in
          let before = in_order r.block j (subst (λ (i : ℕ). Before i r.block (numbers (packed p))) f.number b) in
          inr (r.block, before, meets_shown p rs r.block j g f k, top_is p rs r.block g ∙ t ∙ sym y_is)

  largest_of : (f : Rect → ℕ) (g : Placement → ℕ) → ((q : Rect) → g (shown q) ≡ f q) → LargestOf p.tree (λ i. g (at rs i)) (largest f (packed p))
  largest_of f g alike = record { bounds = bounds; reached = reached (largest_met f (packed p)) }
    where
      bounds : (i : ℕ) → Among i (blocks p.tree) → g (at rs i) ≤ largest f (packed p)
      bounds i m = let s = standing i m in omega (arith, ap g s.shows, alike s.rect, largest_over f (packed p) s.rect s.among)

      reached : (largest f (packed p) ≡ 0) ⊎ ((q : Rect) × Among q (packed p) × (f q ≡ largest f (packed p)))
          → (largest f (packed p) ≡ 0) ⊎ ((i : ℕ) × Among i (blocks p.tree) × (g (at rs i) ≡ largest f (packed p)))
      reached (inl z) = inl z
      reached (inr (q, m, e)) =
          let stands = (packed_blocks p).only q.block (among_map (λ (v : Rect). v.block) q (packed p) m) in
          inr (q.block, counted_among q.block p.tree stands, ap g (rect_standing q m).shows ∙ alike q ∙ e)

  given : Packing p (reach (packed p)) (height (packed p)) rs
  given = record {
    long = length-map-range_with_len (record_of (packed p)) 0 (block_count p);
    absent = absent;
    sized = λ i m. size_is p rs i (standing i m);
    root = root_left p w rs (placements_recorded p);
    left = left_child p w rs (placements_recorded p);
    right = right_child p w rs (placements_recorded p);
    rests = rests;
    reach = subst (LargestOf p.tree (λ i. (at rs i).x + (at rs i).width)) (reach_is (packed p)) (largest_of right_edge (λ r. r.x + r.width) (λ q. refl));
    highest = subst (LargestOf p.tree (λ i. top_of (at rs i))) (height_is (packed p)) (largest_of top top_of (λ q. refl));
  }

pub one_packing : OnePacking
one_packing p w = record {
  given = given p w;
  only = λ width high rs k. same_packing p w rs (placements p) width high (reach (packed p)) (height (packed p)) k (given p w);
}
