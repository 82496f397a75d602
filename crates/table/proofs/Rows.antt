-- What a change of links leaves of each row: f is a part of a row, as its size.
use Rattle.std.proofs.Common.{◌≡◌, ℕ, zero, suc, Bool, true, false, cond, eqb, ltb, List, map, length, set, sym, refl, ap, ◌∙◌, inl, inr, arith}
use Rattle.std.proofs.lemmas.Bool.{cases_eq, cases_lt}
use Rattle.std.proofs.lemmas.List.{length-set, get_or-set_same, get_or-set_other, set_past, length-map, get_or-map, get_or_past}
use Rattle.rules.specs.declared.blocks.Children.{Children}
use Rattle.table.specs.declared.blocks.Block.{Block}
use Rattle.table.specs.Tables.{at, blank, with_children, linked, lowered, joined}

-- a row written over by one with the same part
pub set_part : {X : Type 0} (f : Block → X) (bs : List Block) (j m : ℕ) (b : Block) → f b ≡ f (at bs j) → f (at (set bs j b) m) ≡ f (at bs m)
set_part f bs j m b h = elim (cases_eq m j) [
  | inr d ↦ ap f (get_or-set_other bs j m b blank d)
  | inl e ↦ elim (cases_lt j (length bs)) [
    | inl l ↦ ap (λ k. f (at (set bs j b) k)) e ∙ ap f (get_or-set_same bs j b blank l) ∙ h ∙ ap (λ k. f (at bs k)) (sym e)
    | inr l ↦ ap (λ cs. f (at cs m)) (set_past bs j b l)
  ]
]

pub map_part : {X : Type 0} (f : Block → X) (g : Block → Block) → ((b : Block) → f (g b) ≡ f b) → (bs : List Block) (m : ℕ) → f (at (map g bs) m) ≡ f (at bs m)
map_part f g h bs m = elim (cases_lt m (length bs)) [
  | inl l ↦ ap f (get_or-map g bs m blank blank l) ∙ h (at bs m)
  | inr l ↦ ap f (get_or_past (map g bs) m blank (omega (arith, length-map bs g)) ∙ sym (get_or_past bs m blank l))
]

-- a part that does not hang on the children
abbrev pub Linkless : {X : Type 0} → (Block → X) → Type 0
Linkless f = (c : Children) (b : Block) → f (with_children c b) ≡ f b

-- P of both ways of a cond
either : (P : List Block → Type 0) (b : Bool) (cs ds : List Block) → P cs → P ds → P (cond b cs ds)
either P true cs ds p q = p
either P false cs ds p q = q

pub lowered_part : {X : Type 0} (f : Block → X) → Linkless f → (n l j : ℕ) (bs : List Block) (m : ℕ) → f (at (lowered n l j bs) m) ≡ f (at bs m)
unfolding lowered
lowered_part f s zero l j bs m = refl
lowered_part {X} f s (suc n) l j bs m =
    let P : List Block → Type 0 = λ cs. f (at cs m) ≡ f (at bs m) in
    let written : (r : ℕ) → P (set bs j (linked l r (at bs j))) = λ r. set_part f bs j m (linked l r (at bs j)) (s _ (at bs j)) in
    either P (ltb j (length bs)) _ _
    (either P (eqb (at bs j).children.right 65535) _ _ (written (at bs j).children.left)
    (either P (eqb (at bs j).children.left 65535) _ _ (written (at bs j).children.right)
    (lowered_part f s n (at bs j).children.left (at bs j).children.right (set bs j (linked l (at bs j).children.right (at bs j))) m ∙ written (at bs j).children.right)))
    refl

pub lowered_long : (n l j : ℕ) (bs : List Block) → length (lowered n l j bs) ≡ length bs
unfolding lowered
lowered_long zero l j bs = refl
lowered_long (suc n) l j bs =
    let P : List Block → Type 0 = λ cs. length cs ≡ length bs in
    let written : (r : ℕ) → P (set bs j (linked l r (at bs j))) = λ r. length-set bs j (linked l r (at bs j)) in
    either P (ltb j (length bs)) _ _
    (either P (eqb (at bs j).children.right 65535) _ _ (written (at bs j).children.left)
    (either P (eqb (at bs j).children.left 65535) _ _ (written (at bs j).children.right)
    (lowered_long n (at bs j).children.left (at bs j).children.right (set bs j (linked l (at bs j).children.right (at bs j))) ∙ written (at bs j).children.right)))
    refl

pub joined_part : {X : Type 0} (f : Block → X) → Linkless f → (l r : ℕ) (bs : List Block) (m : ℕ) → f (at (joined l r bs) m) ≡ f (at bs m)
joined_part {X} f s l r bs m =
    let P : List Block → Type 0 = λ cs. f (at cs m) ≡ f (at bs m) in
    either P (eqb r 65535) _ _ refl (either P (eqb l 65535) _ _ refl (lowered_part f s (length bs) l r bs m))

pub joined_long : (l r : ℕ) (bs : List Block) → length (joined l r bs) ≡ length bs
joined_long l r bs =
    let P : List Block → Type 0 = λ cs. length cs ≡ length bs in
    either P (eqb r 65535) _ _ refl (either P (eqb l 65535) _ _ refl (lowered_long (length bs) l r bs))
