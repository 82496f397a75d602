-- How blocks settle: in which order, from which spots, and on which height.
use Rattle.std.proofs.Common.{◌≡◌, ℕ, ◌+◌, ◌<◌, ◌≤◌, min, max, Bool, true, false, cond, ◌⊎◌, List, [], ◌∷◌, ◌++◌, map, sym, refl, ap, ◌∙◌, subst, inl, inr, arith}
use mathlib.Core.List.{reverse_aux}
use native.Mathlib.Decide.{dec_le}
use Rattle.std.proofs.lemmas.Bool.Decides.{nat_tests}
use Rattle.std.proofs.lemmas.List.{append-nil, map-append}
use Rattle.rules.specs.declared.blocks.Size.{Size}
use Rattle.rules.specs.Trees.{Tree, empty, node, blocks, Among, Distinct}
use Rattle.rules.specs.Plans.{Plan, Whole, size_at}
use Rattle.rules.specs.Packing.{Spot, spots, Rect, right_edge, top, meet, highest, rest_on, settle, packed}
use Rattle.geometry.specs.Relations.{numbers, Spans}
use Rattle.geometry.proofs.Members.{among_map, distinct_turned}
use Rattle.geometry.proofs.Once.{whole_distinct}

pub settle_append : (sizes : List Size) (ps : List Rect) (xs ys : List Spot) → settle sizes ps (xs ++ ys) ≡ settle sizes (settle sizes ps xs) ys
settle_append sizes ps [] ys = refl
settle_append sizes ps (a ∷ xs) ys = settle_append sizes (rest_on sizes ps a ∷ ps) xs ys

-- the blocks of the spots
abbrev pub named : List Spot → List ℕ
named ss = map (λ (s : Spot). s.block) ss

pub named_append : (xs ys : List Spot) → named (xs ++ ys) ≡ named xs ++ named ys
named_append xs ys = map-append (λ (s : Spot). s.block) xs ys

pub named_spots : (sizes : List Size) (t : Tree) (x : ℕ) → named (spots sizes t x) ≡ blocks t
named_spots sizes empty x = refl
named_spots sizes (node i l r) x =
    let a = named_spots sizes l (x + (size_at sizes i).width) in
    let b = named_spots sizes r x in
    ap (λ (is : List ℕ). i ∷ is) (named_append (spots sizes l (x + (size_at sizes i).width)) (spots sizes r x) ∙ rw (a, b) refl)

pub spot_among : (sizes : List Size) (t : Tree) (x : ℕ) (s : Spot) → Among s (spots sizes t x) → Among s.block (blocks t)
spot_among sizes t x s m =
    subst (λ (is : List ℕ). Among s.block is) (named_spots sizes t x) (among_map (λ (v : Spot). v.block) s (spots sizes t x) m)

pub settle_numbers : (sizes : List Size) (ps : List Rect) (ss : List Spot) → numbers (settle sizes ps ss) ≡ reverse_aux (named ss) (numbers ps)
settle_numbers sizes ps [] = refl
settle_numbers sizes ps (s ∷ ss) = settle_numbers sizes (rest_on sizes ps s ∷ ps) ss

-- the placed blocks are the tree's, backwards
pub packed_numbers : (p : Plan) → numbers (packed p) ≡ reverse_aux (blocks p.tree) []
packed_numbers p =
    settle_numbers p.sizes [] (spots p.sizes p.tree 0) ∙ ap (λ (is : List ℕ). reverse_aux is []) (named_spots p.sizes p.tree 0)

pub packed_distinct : (p : Plan) → Whole p → Distinct (numbers (packed p))
packed_distinct p w =
    subst Distinct (sym (packed_numbers p))
    (distinct_turned (blocks p.tree) [] (subst Distinct (sym (append-nil (blocks p.tree))) (whole_distinct p w)))

-- the spot of which the placed block p is made
pub record From (sizes : List Size) (ss : List Spot) (p : Rect) : Type 0 where
  pub spot : Spot
  pub among : Among spot ss
  pub block_is : spot.block ≡ p.block
  pub left_is : spot.left ≡ p.x
  pub width_is : p.width ≡ (size_at sizes p.block).width
  pub height_is : p.height ≡ (size_at sizes p.block).height

pub settle_from : (sizes : List Size) (ps : List Rect) (ss : List Spot) (p : Rect) → Among p (settle sizes ps ss) → Among p ps ⊎ From sizes ss p
settle_from sizes ps [] p m = inl m
settle_from sizes ps (s ∷ ss) p m = elim (settle_from sizes (rest_on sizes ps s ∷ ps) ss p m) [
  | inl (inl e) ↦
      inr (subst (From sizes (s ∷ ss)) (sym e) (record { spot = s; among = inl refl; block_is = refl; left_is = refl; width_is = refl; height_is = refl }))
  | inl (inr n) ↦ inl n
  | inr f ↦
      inr (record { spot = f.spot; among = inr f.among; block_is = f.block_is; left_is = f.left_is; width_is = f.width_is; height_is = f.height_is })
]

pub packed_from : (p : Plan) (q : Rect) → Among q (packed p) → From p.sizes (spots p.sizes p.tree 0) q
packed_from p q m = elim (settle_from p.sizes [] (spots p.sizes p.tree 0) q m) [ inl z ↦ absurd z | inr f ↦ f ]

pub from_named : (sizes : List Size) (ss : List Spot) (p : Rect) → From sizes ss p → Among p.block (named ss)
from_named sizes ss p f = subst (λ (i : ℕ). Among i (named ss)) f.block_is (among_map (λ (s : Spot). s.block) f.spot ss f.among)

-- each block rests on those behind it in the list
abbrev pub Settled : List Rect → Type 0
Settled [] = Unit {0}
Settled (p ∷ ps) = (p.y ≡ highest ps p.x (right_edge p)) × Settled ps

pub settle_settled : (sizes : List Size) (ps : List Rect) (ss : List Spot) → Settled ps → Settled (settle sizes ps ss)
settle_settled sizes ps [] h = h
settle_settled sizes ps (s ∷ ss) h = settle_settled sizes (rest_on sizes ps s ∷ ps) ss (refl, h)

pub packed_settled : (p : Plan) → Settled (packed p)
packed_settled p = settle_settled p.sizes [] (spots p.sizes p.tree 0) tt

-- q's span has a column in [a, b)
pub record Crosses (q : Rect) (a b : ℕ) : Type 0 where
  pub at : ℕ
  pub spans : Spans q at
  pub from_a : a ≤ at
  pub to_b : at < b

pub highest_over : (ps : List Rect) (a b : ℕ) (q : Rect) → Among q ps → Crosses q a b → top q ≤ highest ps a b
highest_over [] a b q m k = absurd m
highest_over (p ∷ ps) a b q (inl e) k =
    grind (arith, nat_tests, ap top e, ap right_edge e, ap (λ (v : Rect). v.x) e, k.spans.starts, k.spans.ends, k.from_a, k.to_b)
highest_over (p ∷ ps) a b q (inr m) k = let h = highest_over ps a b q m k in omega arith

-- h is 0, or the top of a block of the list that crosses [a, b)
abbrev pub Reached : List Rect → ℕ → ℕ → ℕ → Type 0
Reached ps a b h = (h ≡ 0) ⊎ ((q : Rect) × Among q ps × Crosses q a b × (h ≡ top q))

meet_crosses : (p : Rect) (a b : ℕ) → meet p.x (right_edge p) a b ≡ true → Crosses p a b
meet_crosses p a b e =
    let h : max p.x a < min (right_edge p) b = grind (arith, nat_tests) in
    record { at = max p.x a; spans = record { starts = omega arith; ends = omega arith }; from_a = omega arith; to_b = omega arith }

reached_behind : (p : Rect) (ps : List Rect) (a b h : ℕ) → Reached ps a b h → Reached (p ∷ ps) a b h
reached_behind p ps a b h (inl e) = inl e
reached_behind p ps a b h (inr r) = inr (r.0, inr r.1, r.2, r.3)

reached_more : (p : Rect) (ps : List Rect) (a b h : ℕ) (t : Bool) → meet p.x (right_edge p) a b ≡ t → Reached ps a b h
    → Reached (p ∷ ps) a b (max (cond t (top p) 0) h)
reached_more p ps a b h false e r = let z : max 0 h ≡ h = omega arith in rw z (reached_behind p ps a b h r)
reached_more p ps a b h true e r = go (dec_le (top p) h)
  where
    go : Dec (top p ≤ h) → Reached (p ∷ ps) a b (max (top p) h)
    go (yes l) = let z : max (top p) h ≡ h = omega arith in rw z (reached_behind p ps a b h r)
    go (no l) = let z : max (top p) h ≡ top p = omega arith in inr (p, inl refl, meet_crosses p a b e, z)

pub highest_reached : (ps : List Rect) (a b : ℕ) → Reached ps a b (highest ps a b)
highest_reached [] a b = inl refl
highest_reached (p ∷ ps) a b = reached_more p ps a b (highest ps a b) (meet p.x (right_edge p) a b) refl (highest_reached ps a b)
