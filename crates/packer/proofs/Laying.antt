-- The blocks that a walk comes to, laid one after the other.
use Rattle.std.proofs.Common.{◌≡◌, ℕ, ◌+◌, ◌≤◌, List, [], ◌∷◌, max, map, length, refl, ap, ◌∙◌, arith}
use Rattle.std.specs.List.{fold}
use Rattle.std.proofs.lemmas.List.{length-map}
use Rattle.rules.specs.declared.blocks.Size.{Size}
use Rattle.rules.specs.Trees.{Tree, size}
use Rattle.rules.specs.Plans.{Plan, size_at}
use Rattle.rules.specs.Packing.{Spot, spots, Rect, highest, rest_on, settle, packed, reach, height}
use Rattle.geometry.proofs.Bounds.{length_spots}
use Rattle.packer.specs.declared.spots.Visit.{Visit}
use Rattle.packer.specs.Walks.{visits_of, visits}

-- the block on the placed ones, where the walk comes to it
abbrev pub resting : List Rect → Visit → Rect
resting ps v = record {
  block = v.block;
  x = v.left;
  y = highest ps v.left (v.left + v.size.width);
  width = v.size.width;
  height = v.size.height;
}

-- one after the other; the block placed last stands first
abbrev pub laid : List Rect → List Visit → List Rect
laid ps [] = ps
laid ps (v ∷ vs) = laid (resting ps v ∷ ps) vs

laid_is : (sizes : List Size) (ps : List Rect) (ss : List Spot) → laid ps (map (λ (s : Spot). record { block = s.block; left = s.left; size = size_at sizes s.block }) ss) ≡ settle sizes ps ss
laid_is sizes ps [] = refl
laid_is sizes ps (s ∷ ss) = laid_is sizes (rest_on sizes ps s ∷ ps) ss

pub packed_is : (p : Plan) → laid [] (visits p) ≡ packed p
packed_is p = laid_is p.sizes [] (spots p.sizes p.tree 0)

-- blocks placed later add one each, and only add to the reach and to the height
pub record Grows (ps qs : List Rect) (more : ℕ) : Type 0 where
  pub long : length qs ≡ length ps + more
  pub wide : reach ps ≤ reach qs
  pub high : height ps ≤ height qs

pub laid_grows : (ps : List Rect) (vs : List Visit) → Grows ps (laid ps vs) (length vs)
laid_grows ps [] = record { long = omega arith; wide = omega arith; high = omega arith }
laid_grows ps (v ∷ vs) =
    let more = laid_grows (resting ps v ∷ ps) vs in
    record { long = omega arith; wide = omega arith; high = omega arith }

pub length_visits : (sizes : List Size) (t : Tree) (x : ℕ) → length (visits_of sizes t x) ≡ size t
length_visits sizes t x =
    length-map (spots sizes t x) (λ (s : Spot). record { block = s.block; left = s.left; size = size_at sizes s.block }) ∙ length_spots sizes t x

-- the farther of a right edge and the reach so far
abbrev pub farther : ℕ → Visit → ℕ
farther a v = max (v.left + v.size.width) a

reach_laid : (ps : List Rect) (vs : List Visit) → fold farther (reach ps) vs ≡ reach (laid ps vs)
reach_laid ps [] = refl
reach_laid ps (v ∷ vs) = reach_laid (resting ps v ∷ ps) vs

-- the largest of the right edges is the reach
pub widest : (p : Plan) → fold farther 0 (visits p) ≡ reach (packed p)
widest p = reach_laid [] (visits p) ∙ ap reach (packed_is p)
