-- What a table that holds a tree says of its blocks.
use Rattle.std.proofs.Common.{◌≡◌, ℕ, ◌<◌, ◌≤◌, Bool, true, false, cond, List, length, refl, ap, ◌∙◌, inl, inr, arith}
use Rattle.std.proofs.lemmas.Bool.{cases_lt, cond-true}
use Rattle.std.proofs.lemmas.List.{get_or_past}
use Rattle.rules.specs.Trees.{Tree, count}
use Rattle.rules.specs.Links.{Spells}
use Rattle.rules.proofs.Spelling.{frame}
use Rattle.rules.proofs.Counts.{flag_le}
use Rattle.table.specs.declared.blocks.Block.{Block}
use Rattle.table.specs.Tables.{at, blank, lefts, rights, Holds}

-- the links of the table bs from i on spell t
abbrev pub Sp : List Block → ℕ → ℕ → Tree → Type 0
Sp bs n i t = Spells (lefts bs) (rights bs) n i t

-- rows of a tree's own blocks that stay keep the tree
pub frame_at : (bs cs : List Block) (n i : ℕ) (t : Tree) → ((m : ℕ) → 0 < count m t → at cs m ≡ at bs m) → Sp bs n i t → Sp cs n i t
frame_at bs cs n i t h s = frame (lefts bs) (rights bs) (lefts cs) (rights cs) n i t (λ m z. (ap (λ b. b.children.left) (h m z), ap (λ b. b.children.right) (h m z))) s

counted_present : (b : Bool) (n : ℕ) → n ≡ cond b 1 0 → 0 < n → b ≡ true
counted_present true n e h = refl
counted_present false n e h = absurd (omega arith)

module _ {bs : List Block} {root : ℕ} {t : Tree} (h : Holds bs root t) where
  pub in_tree_present : (k : ℕ) → 0 < count k t → (at bs k).present ≡ true
  in_tree_present k p = counted_present (at bs k).present (count k t) (h.once k) p

  pub in_tree_once : (k : ℕ) → 0 < count k t → count k t ≡ 1
  in_tree_once k p = h.once k ∙ cond-true _ _ _ (in_tree_present k p)

  pub at_most_once : (k : ℕ) → count k t ≤ 1
  at_most_once k = omega (arith, h.once k, flag_le (at bs k).present)

  pub in_tree_within : (k : ℕ) → 0 < count k t → k < length bs
  in_tree_within k p = elim (cases_lt k (length bs)) [
    | inl l ↦ l
    | inr l ↦
        let e : ◌≡◌ {A = ℕ} (cond (at bs k).present 1 0) 0 = ap {B = ℕ} (λ b. cond b.present 1 0) (get_or_past bs k blank l) in
        absurd (omega (arith, h.once k))
  ]
