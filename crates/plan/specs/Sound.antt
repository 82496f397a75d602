-- The tree of a block table, the plan that it stands for, and when it is sound.
use Rattle.std.specs.Prelude.{◌≡◌, ℕ, Bool, true, cond, ◌&&◌, List, [], ◌∷◌, map, length}
use Rattle.rules.specs.declared.blocks.Size.{Size}
use Rattle.rules.specs.Trees.{Tree, count}
use Rattle.rules.specs.Links.{grow, spells}
use Rattle.rules.specs.Plans.{Plan, size_fits}
use Rattle.table.specs.declared.blocks.Block.{Block}
use Rattle.table.specs.Tables.{at, lefts, rights}

-- the tree that the table's links spell from the root on
unfoldable pub table_tree : List Block → ℕ → Tree
table_tree bs root = grow (lefts bs) (rights bs) (length bs) root

-- The links spell a tree, in which each block marked present stands once, and no other: from the root just one path of
-- links leads to each present block, and none to an absent one.
abbrev pub Sound : List Block → ℕ → Type 0
Sound bs root =
    (spells (lefts bs) (rights bs) (length bs) root (table_tree bs root) ≡ true)
    × ((k : ℕ) → count k (table_tree bs root) ≡ cond (at bs k).present 1 0)

-- every side is in range
unfoldable pub sizes_fit : List Size → Bool
sizes_fit [] = true
sizes_fit (s ∷ ss) = size_fits s && sizes_fit ss

-- every side of the table is in range
abbrev pub all_fit : List Block → Bool
all_fit bs = sizes_fit (map (λ b. b.size) bs)

-- the plan that the table stands for
unfoldable pub plan_of : List Block → ℕ → Plan
plan_of bs root = record { sizes = map (λ b. b.size) bs; letters = map (λ b. b.letter) bs; tree = table_tree bs root }
