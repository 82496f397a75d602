-- The branches by links are those of the tree.
use Rattle.std.proofs.Common.{◌≡◌, ℕ, zero, suc, ◌<◌, ◌≤◌, Bool, ◌&&◌, List, [], ◌∷◌, length, refl, ap, ◌∙◌, arith}
use Rattle.std.proofs.lemmas.Bool.{eq-eqb, ne_eqb, lt-ltb, le-ltb, cond-true, cond-false}
use Rattle.rules.specs.declared.blocks.Letter.{Letter}
use Rattle.rules.specs.declared.blocks.Letter.TheVariants.{Free, Top, Bottom, Left as LeftEdge, Right as RightEdge}
use Rattle.rules.specs.declared.edits.Side.{Side}
use Rattle.rules.specs.declared.edits.Side.TheVariants.{Left, Right}
use Rattle.rules.specs.Trees.{Tree, empty, node, size, leftmost, rightmost, left_foot, right_foot, no_left_child, no_right_child}
use Rattle.rules.specs.Sides.{child_on}
use Rattle.rules.specs.Letters.{among, letter_kept}
use Rattle.rules.proofs.Spelling.{size_le}
use Rattle.table.specs.declared.blocks.Block.{Block}
use Rattle.table.specs.Tables.{at, lefts, rights, Holds}
use Rattle.table.specs.Branches.{branch, branch_of, last_from, end_of, childless, foot_kept, kept_by_links}
use Rattle.table.proofs.Holding.{Sp, at_most_once}

-- the steps of a walk along a branch
module _ (s : Side) (bs : List Block) where
  branch_out : (f i : ℕ) → length bs ≤ i → branch s bs f i ≡ []
  unfolding branch
  branch_out zero i h = refl
  branch_out (suc f) i h = cond-false _ _ _ (le-ltb i (length bs) h)

  branch_more : (f g i : ℕ) → f ≡ suc g → i < length bs → branch s bs f i ≡ i ∷ branch s bs g (child_on s (at bs i).children)
  unfolding branch
  branch_more f g i e h = ap (λ g. branch s bs g i) e ∙ cond-true _ _ _ (lt-ltb i (length bs) h)

-- the branches of a tree that the links spell

branch_left : (bs : List Block) (f i : ℕ) (t : Tree) → length bs ≤ 512 → size t ≤ f → Sp bs (length bs) i t → branch Left bs f i ≡ leftmost t
unfolding size
branch_left bs f i empty n z s = branch_out Left bs f i (omega (arith, s))
branch_left bs zero i (node k l r) n z s = absurd (omega arith)
branch_left bs (suc f) i (node k l r) n z s =
    let e = branch_more Left bs (suc f) f i refl (omega (arith, s.0, s.1)) in
    let h = branch_left bs f (lefts bs k) l n (omega arith) s.2 in
    e ∙ ap (λ m. m ∷ branch Left bs f (lefts bs m)) s.0 ∙ ap (λ is. k ∷ is) h

branch_right : (bs : List Block) (f i : ℕ) (t : Tree) → length bs ≤ 512 → size t ≤ f → Sp bs (length bs) i t → branch Right bs f i ≡ rightmost t
unfolding size
branch_right bs f i empty n z s = branch_out Right bs f i (omega (arith, s))
branch_right bs zero i (node k l r) n z s = absurd (omega arith)
branch_right bs (suc f) i (node k l r) n z s =
    let e = branch_more Right bs (suc f) f i refl (omega (arith, s.0, s.1)) in
    let h = branch_right bs f (rights bs k) r n (omega arith) s.3 in
    e ∙ ap (λ m. m ∷ branch Right bs f (rights bs m)) s.0 ∙ ap (λ is. k ∷ is) h

-- the foot of a branch spells the subtree there, which is no larger
left_end : (bs : List Block) (n k i : ℕ) (t : Tree) → Sp bs n i t → (t ≡ empty → Sp bs n k empty) → Sp bs n (last_from k (leftmost t)) (left_foot t)
unfolding last_from
left_end bs n k i empty s h = h refl
left_end bs n k i (node j empty r) s h = (refl, s.1, s.2, s.3)
left_end bs n k i (node j (node m a b) r) s h = left_end bs n j (lefts bs j) (node m a b) s.2 (λ e. absurd (not_empty e))
  where
    not_empty : node m a b ≡ empty → ⊥
    not_empty e = let z : ◌≡◌ {A = ℕ} 0 1 = cc in omega arith

right_end : (bs : List Block) (n k i : ℕ) (t : Tree) → Sp bs n i t → (t ≡ empty → Sp bs n k empty) → Sp bs n (last_from k (rightmost t)) (right_foot t)
unfolding last_from
right_end bs n k i empty s h = h refl
right_end bs n k i (node j l empty) s h = (refl, s.1, s.2, s.3)
right_end bs n k i (node j l (node m a b)) s h = right_end bs n j (rights bs j) (node m a b) s.3 (λ e. absurd (not_empty e))
  where
    not_empty : node m a b ≡ empty → ⊥
    not_empty e = let z : ◌≡◌ {A = ℕ} 0 1 = cc in omega arith

left_foot_le : (t : Tree) → size (left_foot t) ≤ size t
unfolding size
left_foot_le empty = omega arith
left_foot_le (node i empty r) = omega arith
left_foot_le (node i (node j a b) r) = omega (arith, left_foot_le (node j a b))

right_foot_le : (t : Tree) → size (right_foot t) ≤ size t
unfolding size
right_foot_le empty = omega arith
right_foot_le (node i l empty) = omega arith
right_foot_le (node i l (node j a b)) = omega (arith, right_foot_le (node j a b))

-- no block of a branch has a child on the other side
childless_left : (bs : List Block) (n i : ℕ) (t : Tree) → n ≤ 512 → Sp bs n i t → childless Right bs (leftmost t) ≡ no_right_child t
unfolding childless
childless_left bs n i empty small s = refl
childless_left bs n i (node k l empty) small s =
    ap (λ b. b && childless Right bs (leftmost l)) (eq-eqb (rights bs k) 65535 s.3) ∙ childless_left bs n (lefts bs k) l small s.2
childless_left bs n i (node k l (node j a b)) small s =
    ap (λ b. b && childless Right bs (leftmost l)) (ne_eqb (rights bs k) 65535 (λ e. omega (arith, s.3.0, s.3.1)))

childless_right : (bs : List Block) (n i : ℕ) (t : Tree) → n ≤ 512 → Sp bs n i t → childless Left bs (rightmost t) ≡ no_left_child t
unfolding childless
childless_right bs n i empty small s = refl
childless_right bs n i (node k empty r) small s =
    ap (λ b. b && childless Left bs (rightmost r)) (eq-eqb (lefts bs k) 65535 s.2) ∙ childless_right bs n (rights bs k) r small s.3
childless_right bs n i (node k (node j a b) r) small s =
    ap (λ b. b && childless Left bs (rightmost r)) (ne_eqb (lefts bs k) 65535 (λ e. omega (arith, s.2.0, s.2.1)))

module _ {bs : List Block} {root : ℕ} {t : Tree} (h : Holds bs root t) where
  fits : size t ≤ length bs
  fits = size_le (lefts bs) (rights bs) (length bs) root t h.spelt (at_most_once h)

  leftmost_is : branch_of Left bs root ≡ leftmost t
  leftmost_is = branch_left bs (length bs) root t h.few fits h.spelt

  rightmost_is : branch_of Right bs root ≡ rightmost t
  rightmost_is = branch_right bs (length bs) root t h.few fits h.spelt

  bottom_left_kept : (i : ℕ) → foot_kept Left i bs root ≡ letter_kept RightEdge i t
  bottom_left_kept i =
      let foot = left_end bs (length bs) 65535 root t h.spelt (λ e. refl) in
      let size_fits = left_foot_le t in
      let along = branch_right bs (length bs) (end_of (leftmost t)) (left_foot t) h.few (omega (arith, fits)) foot in
      ap (λ is. childless Left bs (branch_of Right bs (end_of is)) && among i (branch_of Right bs (end_of is))) leftmost_is
      ∙ ap (λ is. childless Left bs is && among i is) along
      ∙ ap (λ b. b && among i (rightmost (left_foot t))) (childless_right bs (length bs) (end_of (leftmost t)) (left_foot t) h.few foot)

  bottom_right_kept : (i : ℕ) → foot_kept Right i bs root ≡ letter_kept Top i t
  bottom_right_kept i =
      let foot = right_end bs (length bs) 65535 root t h.spelt (λ e. refl) in
      let size_fits = right_foot_le t in
      let along = branch_left bs (length bs) (end_of (rightmost t)) (right_foot t) h.few (omega (arith, fits)) foot in
      ap (λ is. childless Right bs (branch_of Left bs (end_of is)) && among i (branch_of Left bs (end_of is))) rightmost_is
      ∙ ap (λ is. childless Right bs is && among i is) along
      ∙ ap (λ b. b && among i (leftmost (right_foot t))) (childless_left bs (length bs) (end_of (rightmost t)) (right_foot t) h.few foot)

  -- what the links say of a letter is what the tree says
  pub kept_by_tree : (letter : Letter) (i : ℕ) → kept_by_links letter i bs root ≡ letter_kept letter i t
  kept_by_tree Free i = refl
  kept_by_tree Bottom i = ap (among i) leftmost_is
  kept_by_tree LeftEdge i = ap (among i) rightmost_is
  kept_by_tree RightEdge i = bottom_left_kept i
  kept_by_tree Top i = bottom_right_kept i

-- an answer by the links is one by the tree
pub by_tree : (bs : List Block) (root i : ℕ) (letter : Letter) (r : Bool) → r ≡ kept_by_links letter i bs root → (t : Tree) → Holds bs root t → r ≡ letter_kept letter i t
by_tree bs root i letter r e t h = e ∙ kept_by_tree h letter i
