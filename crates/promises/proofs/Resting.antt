-- On which blocks a placed block rests, and the largest right edge and top.
use Rattle.std.proofs.Common.{◌≡◌, ℕ, ◌≤◌, max, ◌⊎◌, List, [], ◌∷◌, sym, refl, ap, ◌∙◌, subst, inl, inr, arith}
use native.Mathlib.Decide.{dec_le}
use Rattle.rules.specs.Trees.{Among, Distinct}
use Rattle.rules.specs.Packing.{Rect, right_edge, top, highest, reach, height}
use Rattle.geometry.specs.Relations as rects
use Rattle.geometry.specs.Relations.{numbers}
use Rattle.geometry.proofs.Members.{among_map}
use Rattle.geometry.proofs.Settling.{Settled, Reached, highest_over, highest_reached}
use Rattle.promises.specs.Relation.{Before}
use Rattle.promises.proofs.Before.{second_behind}

-- the first block's number is not among those behind it
not_first : (v q : Rect) (ps : List Rect) → Distinct (numbers (v ∷ ps)) → Among q.block (numbers ps) → q ≡ v → ⊥
not_first v q ps d m e = d.0 (subst (λ (r : Rect). Among r.block (numbers ps)) e m)

-- a block rests at or over the tops of those behind it in the list that meet it
pub rests_over : (ps : List Rect) → Settled ps → Distinct (numbers ps) → (q r : Rect) → Among q ps → Among r ps
    → Before q.block r.block (numbers ps) → rects.Meets r q → top r ≤ q.y
rests_over [] s d q r m n b k = absurd m
rests_over (v ∷ ps) s d q r m (inl f) b k = absurd (not_first v r ps d (second_behind q.block r.block v.block (numbers ps) b) f)
rests_over (v ∷ ps) s d q r (inl e) (inr n) b k =
    let over = highest_over ps q.x (right_edge q) r n (record { at = k.shared; spans = k.of_first; from_a = k.of_second.starts; to_b = k.of_second.ends }) in
    omega (arith, over, subst (λ (u : Rect). u.y ≡ highest ps u.x (right_edge u)) (sym e) s.0)
rests_over (v ∷ ps) s d q r (inr m) (inr n) (inl (e, h)) k =
    absurd (d.0 (subst (λ (i : ℕ). Among i (numbers ps)) e (among_map (λ (u : Rect). u.block) q ps m)))
rests_over (v ∷ ps) s d q r (inr m) (inr n) (inr b) k = rests_over ps s.1 d.1 q r m n b k

-- on the floor, or on one of them
abbrev pub RestsOn : List Rect → Rect → Type 0
RestsOn ps q = (q.y ≡ 0) ⊎ ((r : Rect) × Among r ps × Before q.block r.block (numbers ps) × rects.Meets r q × (top r ≡ q.y))

rests_on_first : (v : Rect) (ps : List Rect) → v.y ≡ highest ps v.x (right_edge v)
    → Reached ps v.x (right_edge v) (highest ps v.x (right_edge v)) → RestsOn (v ∷ ps) v
rests_on_first v ps e (inl z) = inl (e ∙ z)
rests_on_first v ps e (inr (r, m, k, t)) =
    let meets : rects.Meets r v = record { shared = k.at; of_first = k.spans; of_second = record { starts = k.from_a; ends = k.to_b } } in
    inr (r, inr m, inl (refl, among_map (λ (u : Rect). u.block) r ps m), meets, sym (e ∙ t))

rests_on_behind : (v : Rect) (ps : List Rect) (q : Rect) → RestsOn ps q → RestsOn (v ∷ ps) q
rests_on_behind v ps q (inl z) = inl z
rests_on_behind v ps q (inr (r, m, b, k, t)) = inr (r, inr m, inr b, k, t)

pub rests_on : (ps : List Rect) → Settled ps → (q : Rect) → Among q ps → RestsOn ps q
rests_on [] s q m = absurd m
rests_on (v ∷ ps) s q (inl e) = subst (RestsOn (v ∷ ps)) (sym e) (rests_on_first v ps s.0 (highest_reached ps v.x (right_edge v)))
rests_on (v ∷ ps) s q (inr m) = rests_on_behind v ps q (rests_on ps s.1 q m)

-- the largest f of the placed blocks, 0 if there are none: reach and height are such
abbrev pub largest : (Rect → ℕ) → List Rect → ℕ
largest f [] = 0
largest f (q ∷ ps) = max (f q) (largest f ps)

pub reach_is : (ps : List Rect) → largest right_edge ps ≡ reach ps
reach_is [] = refl
reach_is (q ∷ ps) = ap (max (right_edge q)) (reach_is ps)

pub height_is : (ps : List Rect) → largest top ps ≡ height ps
height_is [] = refl
height_is (q ∷ ps) = ap (max (top q)) (height_is ps)

module _ (f : Rect → ℕ) where
  pub largest_over : (ps : List Rect) (q : Rect) → Among q ps → f q ≤ largest f ps
  largest_over [] q m = absurd m
  largest_over (v ∷ ps) q (inl e) = omega (arith, ap f e)
  largest_over (v ∷ ps) q (inr m) = omega (arith, largest_over ps q m)

  pub largest_met : (ps : List Rect) → (largest f ps ≡ 0) ⊎ ((q : Rect) × Among q ps × (f q ≡ largest f ps))
  largest_met [] = inl refl
  largest_met (v ∷ ps) = go (dec_le (f v) (largest f ps)) (largest_met ps)
    where
      go : Dec (f v ≤ largest f ps) → (largest f ps ≡ 0) ⊎ ((q : Rect) × Among q ps × (f q ≡ largest f ps))
          → (max (f v) (largest f ps) ≡ 0) ⊎ ((q : Rect) × Among q (v ∷ ps) × (f q ≡ max (f v) (largest f ps)))
      go (no l) r = inr (v, inl refl, omega arith)
      go (yes l) (inl z) = inl (omega arith)
      go (yes l) (inr (q, m, e)) = inr (q, inr m, omega (arith, e))
