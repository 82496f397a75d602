-- What a plan means.
use Rattle.std.specs.Prelude.{ℕ, ◌<◌, ◌≤◌, Bool, true, false, ◌&&◌, List, [], length, nat_le, nat_lt, slice_index_or}
use Rattle.rules.specs.declared.blocks.Size.{Size}
use Rattle.rules.specs.declared.blocks.Letter.{Letter}
use Rattle.rules.specs.declared.blocks.Letter.TheVariants.{Free}
use Rattle.rules.specs.Trees.{Tree, empty, node, count}

-- Sizes and letters of all blocks, and the tree of the present ones. Blocks are numbered from 0.
pub record Plan : Type 0 where
  pub sizes : List Size
  pub letters : List Letter
  pub tree : Tree

-- a new plan has no blocks
abbrev pub new_plan : Plan
new_plan = record { sizes = []; letters = []; tree = empty }

-- the number of blocks, present or absent
unfoldable pub block_count : Plan → ℕ
block_count p = length p.sizes

-- the size of block i
abbrev pub size_at : List Size → ℕ → Size
size_at sizes i = slice_index_or sizes i (record { width = 0; height = 0 })

-- the letter of block i
abbrev pub letter_at : List Letter → ℕ → Letter
letter_at letters i = slice_index_or letters i Free

-- a block is present if it stands in the tree
unfoldable pub present : Plan → ℕ → Bool
present p i = nat_lt 0 (count i p.tree)

-- no block is present
unfoldable pub bare : Tree → Bool
bare empty = true
bare (node i l r) = false

-- a side is 1 to 131,072
abbrev pub side_fits : ℕ → Bool
side_fits s = nat_le 1 s && nat_le s 131072

-- both sides are 1 to 131,072
abbrev pub size_fits : Size → Bool
size_fits s = side_fits s.width && side_fits s.height

-- each present block stands in the tree once, and is one of the plan's blocks
pub record Whole (p : Plan) : Type 0 where
  pub once : (k : ℕ) → count k p.tree ≤ 1
  pub known : (k : ℕ) → 0 < count k p.tree → k < block_count p
