-- How many blocks settle, how far right, and how high.
use Rattle.std.proofs.Common.{◌≡◌, ℕ, ◌+◌, ◌*◌, ◌≤◌, max, Bool, true, false, cond, List, [], ◌∷◌, length, refl, ap, arith}
use Rattle.std.proofs.lemmas.List.{length-append}
use Rattle.rules.specs.declared.blocks.Size.{Size}
use Rattle.rules.specs.Trees.{Tree, empty, node, size}
use Rattle.rules.specs.Plans.{Plan, size_at}
use Rattle.rules.specs.Packing.{Spot, spots, Rect, right_edge, top, meet, highest, rest_on, settle, packed, reach, height}
use Rattle.geometry.proofs.Settling.{settle_append}

pub length_spots : (sizes : List Size) (t : Tree) (x : ℕ) → length (spots sizes t x) ≡ size t
unfolding size
length_spots sizes empty x = refl
length_spots sizes (node i l r) x =
    let edge = x + (size_at sizes i).width in
    omega (arith, length-append (spots sizes l edge) (spots sizes r x), length_spots sizes l edge, length_spots sizes r x)

length_settle : (sizes : List Size) (ps : List Rect) (ss : List Spot) → length (settle sizes ps ss) ≡ length ps + length ss
length_settle sizes ps [] = omega arith
length_settle sizes ps (s ∷ ss) = omega (arith, length_settle sizes (rest_on sizes ps s ∷ ps) ss)

pub length_packed : (p : Plan) → length (packed p) ≡ size p.tree
length_packed p = omega (arith, length_settle p.sizes [] (spots p.sizes p.tree 0), length_spots p.sizes p.tree 0)

highest_height : (ps : List Rect) (a b : ℕ) → highest ps a b ≤ height ps
highest_height [] a b = omega arith
highest_height (p ∷ ps) a b = go (meet p.x (right_edge p) a b) (highest_height ps a b)
  where
    go : (t : Bool) → highest ps a b ≤ height ps → max (cond t (top p) 0) (highest ps a b) ≤ max (top p) (height ps)
    go true h = omega arith
    go false h = omega arith

module _ (sizes : List Size) (flat : (i : ℕ) → (size_at sizes i).height ≤ 131072) where
  -- each block adds at most its own height
  low_settle : (ps : List Rect) (ss : List Spot) → height ps ≤ 131072 * length ps → height (settle sizes ps ss) ≤ 131072 * length (settle sizes ps ss)
  low_settle ps [] h = h
  low_settle ps (s ∷ ss) h =
      let under = highest_height ps s.left (s.left + (size_at sizes s.block).width) in
      let own = flat s.block in
      low_settle (rest_on sizes ps s ∷ ps) ss (omega arith)

module _ (sizes : List Size) (narrow : (i : ℕ) → (size_at sizes i).width ≤ 131072) where
  -- a tree reaches no further than its blocks side by side
  near_settle : (ps : List Rect) (t : Tree) (x : ℕ) → reach (settle sizes ps (spots sizes t x)) ≤ max (reach ps) (x + 131072 * size t)
  unfolding size
  near_settle ps empty x = omega arith
  near_settle ps (node i l r) x =
      let edge = x + (size_at sizes i).width in
      let own = narrow i in
      let with_own = rest_on sizes ps (record { block = i; left = x }) ∷ ps in
      let with_left = settle sizes with_own (spots sizes l edge) in
      let joined = ap reach (settle_append sizes with_own (spots sizes l edge) (spots sizes r x)) in
      let below_left = near_settle with_own l edge in
      let below_right = near_settle with_left r x in
      omega arith

-- no higher than the blocks one on the other, and no further right than the blocks side by side
pub packed_low : (p : Plan) → ((i : ℕ) → (size_at p.sizes i).height ≤ 131072) → height (packed p) ≤ 131072 * size p.tree
packed_low p flat = omega (arith, low_settle p.sizes flat [] (spots p.sizes p.tree 0) (omega arith), length_packed p)

pub packed_near : (p : Plan) → ((i : ℕ) → (size_at p.sizes i).width ≤ 131072) → reach (packed p) ≤ 131072 * size p.tree
packed_near p narrow = omega (arith, near_settle p.sizes narrow [] p.tree 0)
