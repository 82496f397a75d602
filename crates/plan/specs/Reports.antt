-- What a plan tells of a block.
use Rattle.std.specs.Prelude.{ℕ, cond, Result, ◌==◌, nat_lt}
use Rattle.rules.specs.declared.blocks.Children.{Children}
use Rattle.rules.specs.declared.refusals.Refusal.{Refusal}
use Rattle.rules.specs.Refusals.{answered}
use Rattle.rules.specs.Trees.{Tree, empty, node, count}
use Rattle.rules.specs.Letters.{letter_kept}
use Rattle.rules.specs.Plans.{Plan, size_at, letter_at}
use Rattle.rules.specs.Edits.{absent_refusal}
use Rattle.plan.specs.declared.reports.Report.{Report}

-- the block at the top of a tree, 65,535 if it is empty
abbrev pub top_of : Tree → ℕ
top_of empty = 65535
top_of (node k l r) = k

-- the children of block i in the tree
unfoldable pub children_in : ℕ → Tree → Children
children_in i empty = record { left = 65535; right = 65535 }
children_in i (node k l r) =
    cond (k == i) (record { left = top_of l; right = top_of r }) (cond (nat_lt 0 (count i l)) (children_in i l) (children_in i r))

-- size, children, letter, and whether that is kept
abbrev pub report_of : Plan → ℕ → Report
report_of p i = record {
  size = size_at p.sizes i;
  children = children_in i p.tree;
  letter = letter_at p.letters i;
  kept = letter_kept (letter_at p.letters i) i p.tree;
}

-- the report of a block that exists and is present
abbrev pub reported : Plan → ℕ → Result Report Refusal
reported p i = answered (absent_refusal p i) (report_of p i)
