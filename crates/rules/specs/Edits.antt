-- The five edits: what each does to a plan, and its test.
use Rattle.std.specs.Prelude.{ℕ, cond, not, None, Option, ◌==◌, nat_le, slice_set}
use Rattle.rules.specs.declared.blocks.Size.{Size}
use Rattle.rules.specs.declared.edits.Edit.{Edit}
use Rattle.rules.specs.declared.edits.Edit.TheVariants.{Turn, Swap, TakeOut, PutIn, Move}
use Rattle.rules.specs.declared.refusals.Refusal.{Refusal}
use Rattle.rules.specs.declared.refusals.Refusal.TheVariants.{NoSuchBlock, SameBlock, Absent, Present}
use Rattle.rules.specs.Refusals.{when}
use Rattle.rules.specs.Trees.{Tree, swap, take_out, put_in}
use Rattle.rules.specs.Plans.{Plan, block_count, present, bare, size_at}

-- the size with its sides exchanged
abbrev pub turned : Size → Size
turned s = record { width = s.height; height = s.width }

-- the plan with another tree
abbrev pub with_tree : Plan → Tree → Plan
with_tree p t = record { sizes = p.sizes; letters = p.letters; tree = t }

-- the plan after an edit
unfoldable pub edited : Edit → Plan → Plan
edited (Turn i) p = record { sizes = slice_set p.sizes i (turned (size_at p.sizes i)); letters = p.letters; tree = p.tree }
edited (Swap i j) p = with_tree p (swap i j p.tree)
edited (TakeOut i) p = with_tree p (take_out i p.tree)
edited (PutIn i j s) p = with_tree p (put_in i j s p.tree)
edited (Move i j s) p = with_tree p (put_in i j s (take_out i p.tree))

-- 9, then 21: the block exists and is present
abbrev pub absent_refusal : Plan → ℕ → Option Refusal
absent_refusal p i = when (nat_le (block_count p) i) (NoSuchBlock i) (when (not (present p i)) (Absent i) None)

-- 9 for i, 9 for j, 10, 21 for i, 21 for j
abbrev pub pair_refusal : Plan → ℕ → ℕ → Option Refusal
pair_refusal p i j =
    when (nat_le (block_count p) i) (NoSuchBlock i)
    (when (nat_le (block_count p) j) (NoSuchBlock j)
    (when (i == j) (SameBlock i)
    (when (not (present p i)) (Absent i) (when (not (present p j)) (Absent j) None))))

-- 9 and 22 for i, then unless the tree is empty 9 and 21 for j
abbrev pub put_refusal : Plan → ℕ → ℕ → Option Refusal
put_refusal p i j =
    when (nat_le (block_count p) i) (NoSuchBlock i) (when (present p i) (Present i) (cond (bare p.tree) None (absent_refusal p j)))

-- the first refusal of an edit, if there is one
unfoldable pub edit_refusal : Plan → Edit → Option Refusal
edit_refusal p (Turn i) = absent_refusal p i
edit_refusal p (TakeOut i) = absent_refusal p i
edit_refusal p (Swap i j) = pair_refusal p i j
edit_refusal p (Move i j s) = pair_refusal p i j
edit_refusal p (PutIn i j s) = put_refusal p i j
