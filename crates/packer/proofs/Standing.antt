-- The rows of a plan: what they stand for, and where a walk comes to them.
use Rattle.std.proofs.Common.{◌≡◌, ℕ, zero, suc, ◌+◌, ◌<◌, ◌≤◌, true, leb, List, [], ◌∷◌, ◌++◌, map, length, refl, ap, ◌∙◌, subst, inl, inr, arith}
use Rattle.std.specs.List.{All}
use Rattle.std.proofs.lemmas.Bool.{and_parts, leb-true, cases_lt}
use Rattle.std.proofs.lemmas.List.{length-map, map-append, get_or_past}
use Rattle.std.proofs.lemmas.List.Elements.{All-nil, All-cons, All-append, All-same}
use Rattle.rules.specs.declared.blocks.Size.{Size}
use Rattle.rules.specs.Trees.{Tree, empty, node, size}
use Rattle.rules.specs.Plans.{Plan, size_at, side_fits, size_fits}
use Rattle.rules.specs.Packing.{Spot, spots, Rect, packed, reach, height}
use Rattle.rules.proofs.Spelling.{size_le}
use Rattle.geometry.proofs.Bounds.{packed_low, packed_near}
use Rattle.table.specs.declared.blocks.Block.{Block}
use Rattle.table.specs.Tables.{at, blank, lefts, rights, Holds}
use Rattle.table.proofs.Holding.{Sp, at_most_once}
use Rattle.plan.specs.declared.plans.Plan.{Plan as Held}
use Rattle.plan.specs.Meaning.{rows, root_of}
use Rattle.plan.specs.Sound.{table_tree, sizes_fit, plan_of}
use Rattle.plan.proofs.Sounds.{holds}
use Rattle.packer.specs.declared.spots.Visit.{Visit}
use Rattle.packer.specs.Walks.{sizes_of, visits_of, visits, Near}
use Rattle.packer.proofs.Laying.{laid, resting, laid_grows, packed_is}

-- both sides are at most 131,072, and the width is not 0
record Sides (s : Size) : Type 0 where
  some : 0 < s.width
  narrow : s.width ≤ 131072
  flat : s.height ≤ 131072

-- the rows, from that root on, are those of the plan p
pub record StandsFor (bs : List Block) (root : ℕ) (p : Plan) : Type 0 where
  pub few : length bs ≤ 512
  pub small : size p.tree ≤ length bs
  pub spelt : Sp bs (length bs) root p.tree
  pub sizes_are : p.sizes ≡ sizes_of bs
  pub some : (i : ℕ) → i < length bs → 0 < (at bs i).size.width
  pub narrow : (i : ℕ) → (at bs i).size.width ≤ 131072
  pub flat : (i : ℕ) → (at bs i).size.height ≤ 131072

pub size_of_row : (bs : List Block) (i : ℕ) → size_at (sizes_of bs) i ≡ (at bs i).size
size_of_row [] i = refl
size_of_row (b ∷ bs) zero = refl
size_of_row (b ∷ bs) (suc i) = size_of_row bs i

each_side : (ss : List Size) → sizes_fit ss ≡ true → (i : ℕ) → i < length ss → Sides (size_at ss i)
unfolding sizes_fit
each_side [] e i l = absurd (omega arith)
each_side (s ∷ ss) e zero l =
    let both = and_parts (side_fits s.width) (side_fits s.height) (and_parts (size_fits s) (sizes_fit ss) e).0 in
    let width = and_parts (leb 1 s.width) (leb s.width 131072) both.0 in
    let height = and_parts (leb 1 s.height) (leb s.height 131072) both.1 in
    record { some = omega (arith, leb-true 1 s.width width.0); narrow = leb-true s.width 131072 width.1; flat = leb-true s.height 131072 height.1 }
each_side (s ∷ ss) e (suc i) l = each_side ss (and_parts (size_fits s) (sizes_fit ss) e).1 i (omega arith)

pub stands : (plan : Held) → StandsFor (rows plan) (root_of plan) (plan_of (rows plan) (root_of plan))
unfolding plan_of
stands plan =
    let bs = rows plan in
    let h : Holds bs (root_of plan) (table_tree bs (root_of plan)) = holds (omega arith) plan.sound in
    let sides : (i : ℕ) → i < length bs → Sides (at bs i).size = λ i l. subst Sides (size_of_row bs i) (each_side (sizes_of bs) plan.fit i (omega (arith, length-map bs (λ (b : Block). b.size)))) in
    let past : (i : ℕ) → length bs ≤ i → (at bs i).size ≡ blank.size = λ i l. ap (λ (b : Block). b.size) (get_or_past bs i blank l) in
    record {
      few = h.few;
      small = size_le (lefts bs) (rights bs) (length bs) (root_of plan) (table_tree bs (root_of plan)) h.spelt (at_most_once h);
      spelt = h.spelt;
      sizes_are = refl;
      some = λ i l. (sides i l).some;
      narrow = λ i. elim (cases_lt i (length bs)) [ inl l ↦ (sides i l).narrow | inr l ↦ omega (arith, ap (λ (s : Size). s.width) (past i l)) ];
      flat = λ i. elim (cases_lt i (length bs)) [ inl l ↦ (sides i l).flat | inr l ↦ omega (arith, ap (λ (s : Size). s.height) (past i l)) ];
    }

-- the right edges are within the reach
edges : (ps : List Rect) (vs : List Visit) → All (λ (v : Visit). v.left + v.size.width ≤ reach (laid ps vs)) vs
edges ps [] = All-nil (λ (v : Visit). v.left + v.size.width ≤ reach ps)
edges ps (v ∷ vs) = All-cons (λ (w : Visit). w.left + w.size.width ≤ reach (laid (resting ps v ∷ ps) vs)) v vs (omega (arith, laid_grows (resting ps v ∷ ps) vs)) (edges (resting ps v ∷ ps) vs)

module _ {bs : List Block} {root : ℕ} {p : Plan} (plan : StandsFor bs root p) where
  size_is : (i : ℕ) → size_at p.sizes i ≡ (at bs i).size
  size_is i = ap (λ (ss : List Size). size_at ss i) plan.sizes_are ∙ size_of_row bs i

  pub low : height (packed p) ≤ 67108864
  low = omega (arith, packed_low p (λ i. omega (arith, ap (λ (s : Size). s.height) (size_is i), plan.flat i)), plan.small, plan.few)

  pub near : reach (packed p) ≤ 67108864
  near = omega (arith, packed_near p (λ i. omega (arith, ap (λ (s : Size). s.width) (size_is i), plan.narrow i)), plan.small, plan.few)

  abbrev Own : Visit → Type 0
  Own v = (v.block < length bs) × (0 < v.size.width)

  own : (i x : ℕ) (t : Tree) → Sp bs (length bs) i t → All Own (visits_of p.sizes t x)
  own i x empty s = All-nil Own
  own i x (node k l r) s =
      let edge = x + (size_at p.sizes k).width in
      let f : Spot → Visit = λ s. record { block = s.block; left = s.left; size = size_at p.sizes s.block } in
      All-cons Own (f (record { block = k; left = x })) (map f (spots p.sizes l edge ++ spots p.sizes r x))
      (s.1, omega (arith, ap (λ (s : Size). s.width) (size_is k), plan.some k s.1))
      (All-same Own (map f (spots p.sizes l edge ++ spots p.sizes r x)) (visits_of p.sizes l edge ++ visits_of p.sizes r x) (map-append f (spots p.sizes l edge) (spots p.sizes r x))
      (All-append Own (visits_of p.sizes l edge) (visits_of p.sizes r x) (own (lefts bs k) edge l s.2) (own (rights bs k) x r s.3)))

  -- a walk over the plan
  pub visits_near : All (Near (length bs)) (visits p)
  visits_near = λ i d l.
      let o = own root 0 p.tree plan.spelt i d l in
      record { known = o.0; some = o.1; edge = omega (arith, edges [] (visits p) i d l, ap reach (packed_is p), near) }
