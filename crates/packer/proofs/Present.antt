-- How many blocks of a plan are present.
use Rattle.std.proofs.Common.{◌≡◌, ℕ, zero, suc, ◌+◌, ◌<◌, ◌≤◌, Bool, true, false, cond, eqb, List, length, count_by, take, sym, refl, ap, ◌∙◌, add-one, arith}
use Rattle.std.proofs.lemmas.List.{take_all}
use Rattle.std.proofs.lemmas.List.Sums.{count_by_more_yes, count_by_more_no}
use Rattle.rules.specs.Trees.{Tree, empty, node, count, size}
use Rattle.rules.specs.Links.{Spells, sum_below}
use Rattle.rules.specs.Plans.{block_count}
use Rattle.rules.specs.Packing.{packed, height}
use Rattle.rules.proofs.Spelling.{sum_add, sum_zero, sum_one}
use Rattle.table.specs.declared.blocks.Block.{Block}
use Rattle.table.specs.Tables.{at, blank, lefts, rights}
use Rattle.plan.specs.declared.plans.Plan.{Plan as Held}
use Rattle.plan.specs.Meaning.{rows, root_of}
use Rattle.plan.specs.Sound.{plan_of}
use Rattle.plan.proofs.Sounds.{count_is}
use Rattle.packer.proofs.Standing.{stands, low}

-- the blocks of a tree that links spell, counted by their numbers
size_counted : (L R : ℕ → ℕ) (n i : ℕ) (t : Tree) → Spells L R n i t → sum_below (λ m. count m t) n ≡ size t
unfolding count size
size_counted L R n i empty s = sum_zero n
size_counted L R n i (node k l r) s =
    omega (
      arith,
      sum_add (λ m. cond (eqb m k) 1 0) (λ m. count m l + count m r) n,
      sum_add (λ m. count m l) (λ m. count m r) n,
      sum_one k n s.1,
      size_counted L R n (L k) l s.2,
      size_counted L R n (R k) r s.3,
    )

module _ (bs : List Block) (t : Tree) (once : (k : ℕ) → count k t ≡ cond (at bs k).present 1 0) where
  more : (n : ℕ) (b : Bool) → (at bs n).present ≡ b → n < length bs
      → count_by (λ b. b.present) (take (n + 1) bs) ≡ count n t + count_by (λ b. b.present) (take n bs)
  more n true e l = omega (arith, count_by_more_yes (λ (b : Block). b.present) bs n blank l e, once n, ap {B = ℕ} (λ b. cond b 1 0) e)
  more n false e l = omega (arith, count_by_more_no (λ (b : Block). b.present) bs n blank l e, once n, ap {B = ℕ} (λ b. cond b 1 0) e)

  counted : (n : ℕ) → n ≤ length bs → count_by (λ b. b.present) (take n bs) ≡ sum_below (λ m. count m t) n
  unfolding sum_below
  counted zero l = refl
  counted (suc n) l =
      ap (λ k. count_by (λ b. b.present) (take k bs)) (sym (add-one n)) ∙ more n (at bs n).present refl (omega arith)
      ∙ ap (λ k. count n t + k) (counted n (omega arith))

-- the rows that are marked are the blocks of the tree
pub present_is : (plan : Held) → count_by (λ b. b.present) (rows plan) ≡ size (plan_of (rows plan) (root_of plan)).tree
unfolding plan_of
present_is plan =
    let bs = rows plan in
    ap (count_by (λ (b : Block). b.present)) (sym (take_all (length bs) bs (omega arith)))
    ∙ counted bs _ plan.sound.1 (length bs) (omega arith)
    ∙ size_counted (lefts bs) (rights bs) (length bs) (root_of plan) _ (stands plan).spelt

pub rows_are : (plan : Held) → block_count (plan_of (rows plan) (root_of plan)) ≡ length (rows plan)
rows_are plan = count_is (rows plan) (root_of plan)

pub packed_flat : (plan : Held) → height (packed (plan_of (rows plan) (root_of plan))) ≤ 67108864
packed_flat plan = low (stands plan)
