-- The leftmost branch stands on the floor, and nothing stands over a bottom-right branch without right children.
use Rattle.std.proofs.Common.{◌≡◌, ℕ, ◌+◌, ◌<◌, ◌≤◌, true, List, [], ◌∷◌, ◌++◌, sym, refl, ap, ◌∙◌, subst, inl, inr, arith}
use mathlib.Core.Bool.{false≢true}
use Rattle.std.proofs.lemmas.Bool.Decides.{nat_tests}
use Rattle.std.proofs.lemmas.List.{append_assoc, append-nil}
use Rattle.rules.specs.declared.blocks.Size.{Size}
use Rattle.rules.specs.Trees.{Tree, empty, node, blocks, Among, Distinct, leftmost, right_foot, bottom_right, no_right_child}
use Rattle.rules.specs.Plans.{size_at}
use Rattle.rules.specs.Packing.{Spot, spots, Rect, right_edge, highest, rest_on, settle, packed}
use Rattle.geometry.specs.Relations.{Over}
use Rattle.geometry.specs.Laws.{LeftmostOnFloor, BottomRightFree}
use Rattle.geometry.proofs.Members.{among_left, among_right, distinct_split}
use Rattle.geometry.proofs.Once.{among_counted, whole_distinct}
use Rattle.geometry.proofs.Settling.{settle_append, named, named_append, named_spots, settle_from, from_named, highest_over}

-- the spots of the leftmost branch, which are settled first
abbrev spine : List Size → Tree → ℕ → List Spot
spine sizes empty x = []
spine sizes (node i l r) x = record { block = i; left = x } ∷ spine sizes l (x + (size_at sizes i).width)

-- the other spots
abbrev later : List Size → Tree → ℕ → List Spot
later sizes empty x = []
later sizes (node i l r) x = later sizes l (x + (size_at sizes i).width) ++ spots sizes r x

spine_first : (sizes : List Size) (t : Tree) (x : ℕ) → spots sizes t x ≡ spine sizes t x ++ later sizes t x
spine_first sizes empty x = refl
spine_first sizes (node i l r) x =
    let z = x + (size_at sizes i).width in
    ap (λ (os : List Spot). record { block = i; left = x } ∷ os)
    (ap (λ (os : List Spot). os ++ spots sizes r x) (spine_first sizes l z) ∙ append_assoc (spine sizes l z) (later sizes l z) (spots sizes r x))

named_spine : (sizes : List Size) (t : Tree) (x : ℕ) → named (spine sizes t x) ≡ leftmost t
named_spine sizes empty x = refl
named_spine sizes (node i l r) x = ap (λ (is : List ℕ). i ∷ is) (named_spine sizes l (x + (size_at sizes i).width))

leftmost_first : (sizes : List Size) (t : Tree) (x : ℕ) → blocks t ≡ leftmost t ++ named (later sizes t x)
leftmost_first sizes t x =
    sym (named_spots sizes t x) ∙ ap named (spine_first sizes t x) ∙ named_append (spine sizes t x) (later sizes t x)
    ∙ ap (λ (is : List ℕ). is ++ named (later sizes t x)) (named_spine sizes t x)

-- every block on the floor and left of x
abbrev Low : List Rect → ℕ → Type 0
Low [] x = Unit {0}
Low (p ∷ ps) x = (right_edge p ≤ x) × (p.y ≡ 0) × Low ps x

low_on : (ps : List Rect) (x z : ℕ) → x ≤ z → Low ps x → Low ps z
low_on [] x z h l = tt
low_on (p ∷ ps) x z h l = (omega arith, l.1, low_on ps x z h l.2)

low_highest : (ps : List Rect) (x b : ℕ) → Low ps x → highest ps x b ≡ 0
low_highest [] x b l = refl
low_highest (p ∷ ps) x b l = let h = low_highest ps x b l.2 in grind (arith, nat_tests)

low_floor : (ps : List Rect) (x : ℕ) (p : Rect) → Low ps x → Among p ps → p.y ≡ 0
low_floor [] x p l m = absurd m
low_floor (q ∷ ps) x p l (inl e) = ap (λ (v : Rect). v.y) e ∙ l.1
low_floor (q ∷ ps) x p l (inr m) = low_floor ps x p l.2 m

spine_low : (sizes : List Size) (t : Tree) (x : ℕ) (ps : List Rect) → Low ps x → (z : ℕ) × Low (settle sizes ps (spine sizes t x)) z
spine_low sizes empty x ps l = (x, l)
spine_low sizes (node i a b) x ps l =
    let z = x + (size_at sizes i).width in
    spine_low sizes a z (rest_on sizes ps (record { block = i; left = x }) ∷ ps) (omega arith, low_highest ps x z l, low_on ps x z (omega arith) l)

pub leftmost_on_floor : LeftmostOnFloor
leftmost_on_floor p w q m b =
    elim (settle_from p.sizes low L q (subst (λ (ps : List Rect). Among q ps) e m)) [
      | inl n ↦ let h = spine_low p.sizes p.tree 0 [] tt in low_floor low h.0 q h.1 n
      | inr f ↦ absurd ((distinct_split (leftmost p.tree) (named L) d).apart q.block b (from_named p.sizes L q f))
    ]
  where
    L : List Spot
    L = later p.sizes p.tree 0

    low : List Rect
    low = settle p.sizes [] (spine p.sizes p.tree 0)

    e : packed p ≡ settle p.sizes low L
    e = ap (settle p.sizes []) (spine_first p.sizes p.tree 0) ∙ settle_append p.sizes [] (spine p.sizes p.tree 0) L

    d : Distinct (leftmost p.tree ++ named L)
    d = subst Distinct (leftmost_first p.sizes p.tree 0) (whole_distinct p w)

-- the spots that are settled before the last block of the rightmost branch
abbrev front : List Size → Tree → ℕ → List Spot
front sizes empty x = []
front sizes (node i l empty) x = []
front sizes (node i l (node j a b)) x = record { block = i; left = x } ∷ (spots sizes l (x + (size_at sizes i).width) ++ front sizes (node j a b) x)

foot_last : (sizes : List Size) (t : Tree) (x : ℕ) → spots sizes t x ≡ front sizes t x ++ spots sizes (right_foot t) x
foot_last sizes empty x = refl
foot_last sizes (node i l empty) x = refl
foot_last sizes (node i l (node j a b)) x =
    let L = spots sizes l (x + (size_at sizes i).width) in
    ap (λ (os : List Spot). record { block = i; left = x } ∷ os)
    (ap (λ (os : List Spot). L ++ os) (foot_last sizes (node j a b) x) ∙ sym (append_assoc L (front sizes (node j a b) x) (spots sizes (right_foot (node j a b)) x)))

foot_blocks_last : (sizes : List Size) (t : Tree) (x : ℕ) → blocks t ≡ named (front sizes t x) ++ blocks (right_foot t)
foot_blocks_last sizes t x =
    sym (named_spots sizes t x) ∙ ap named (foot_last sizes t x) ∙ named_append (front sizes t x) (spots sizes (right_foot t) x)
    ∙ ap (λ (is : List ℕ). named (front sizes t x) ++ is) (named_spots sizes (right_foot t) x)

spine_alone : (sizes : List Size) (t : Tree) (x : ℕ) → no_right_child t ≡ true → spots sizes t x ≡ spine sizes t x
spine_alone sizes empty x b = refl
spine_alone sizes (node i l empty) x b =
    let z = x + (size_at sizes i).width in
    ap (λ (os : List Spot). record { block = i; left = x } ∷ os) (append-nil (spots sizes l z) ∙ spine_alone sizes l z b)
spine_alone sizes (node i l (node j a c)) x b = absurd (false≢true b)

-- p ends left of x, and no block of the list stands over it
pub record Open (ps : List Rect) (x : ℕ) (p : Rect) : Type 0 where
  pub ends : right_edge p ≤ x
  pub bare : (q : Rect) → Among q ps → Over q p → ⊥

-- that holds of each block whose number is in ns
abbrev Clear : List ℕ → List Rect → ℕ → Type 0
Clear ns ps x = (p : Rect) → Among p ps → Among p.block ns → Open ps x p

-- one more block at x, the right edge of those that are clear
clear_more : (sizes : List Size) (ns : List ℕ) (ps : List Rect) (i x : ℕ) → 0 < (size_at sizes i).height → Clear ns ps x
    → Clear ns (rest_on sizes ps (record { block = i; left = x }) ∷ ps) (x + (size_at sizes i).width)
clear_more sizes ns ps i x tall c p (inl e) n = subst (Open (new ∷ ps) (x + (size_at sizes i).width)) (sym e) (record { ends = omega arith; bare = go })
  where
    new : Rect
    new = rest_on sizes ps (record { block = i; left = x })

    go : (q : Rect) → Among q (new ∷ ps) → Over q new → ⊥
    go q (inl f) o = let y = ap (λ (v : Rect). v.y) f in omega arith
    go q (inr m) o =
        let k = o.meets in
        let h = highest_over ps x (x + (size_at sizes i).width) q m (record { at = k.shared; spans = k.of_first; from_a = k.of_second.starts; to_b = k.of_second.ends }) in
        omega arith
clear_more sizes ns ps i x tall c p (inr m) n = record { ends = omega (arith, (c p m n).ends); bare = go (c p m n) }
  where
    new : Rect
    new = rest_on sizes ps (record { block = i; left = x })

    go : Open ps x p → (q : Rect) → Among q (new ∷ ps) → Over q p → ⊥
    go h q (inl f) o = let y = ap (λ (v : Rect). v.x) f in omega arith
    go h q (inr j) o = h.bare q j o

clear_spine : (sizes : List Size) (ns : List ℕ) (t : Tree) (x : ℕ) (ps : List Rect)
    → ((i : ℕ) → Among i (leftmost t) → 0 < (size_at sizes i).height)
    → Clear ns ps x → (z : ℕ) × Clear ns (settle sizes ps (spine sizes t x)) z
clear_spine sizes ns empty x ps tall c = (x, c)
clear_spine sizes ns (node i l r) x ps tall c =
    clear_spine sizes ns l (x + (size_at sizes i).width) (rest_on sizes ps (record { block = i; left = x }) ∷ ps)
    (λ j m. tall j (inr m)) (clear_more sizes ns ps i x (tall i (inl refl)) c)

pub bottom_right_free : BottomRightFree
bottom_right_free p w tall none q m b r n =
    ((clear_spine sizes (bottom_right t) foot 0 before (λ i h. tall i (among_counted i t (in_tree i (in_foot i h)))) untouched
    ).1 q (subst (λ (ps : List Rect). Among q ps) e m) b).bare r (subst (λ (ps : List Rect). Among r ps) e n)
  where
    sizes : List Size
    sizes = p.sizes

    t : Tree
    t = p.tree

    foot : Tree
    foot = right_foot t

    F : List Spot
    F = front sizes t 0

    before : List Rect
    before = settle sizes [] F

    e : packed p ≡ settle sizes before (spine sizes foot 0)
    e = ap (settle sizes []) (foot_last sizes t 0 ∙ ap (λ (os : List Spot). F ++ os) (spine_alone sizes foot 0 none)) ∙ settle_append sizes [] F (spine sizes foot 0)

    in_foot : (i : ℕ) → Among i (bottom_right t) → Among i (blocks foot)
    in_foot i h = subst (Among i) (sym (leftmost_first sizes foot 0)) (among_left i (leftmost foot) (named (later sizes foot 0)) h)

    in_tree : (i : ℕ) → Among i (blocks foot) → Among i (blocks t)
    in_tree i h = subst (Among i) (sym (foot_blocks_last sizes t 0)) (among_right i (named F) (blocks foot) h)

    d : Distinct (named F ++ blocks foot)
    d = subst Distinct (foot_blocks_last sizes t 0) (whole_distinct p w)

    -- no block of the branch is placed before the branch is
    untouched : Clear (bottom_right t) before 0
    untouched v h k = elim (settle_from sizes [] F v h) [
      | inl z ↦ absurd z
      | inr f ↦ absurd ((distinct_split (named F) (blocks foot) d).apart v.block (from_named sizes F v f) (in_foot v.block k))
    ]
