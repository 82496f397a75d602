-- What a walk over a plan's rows comes to, and what it goes by.
use Rattle.std.specs.Prelude.{◌≡◌, ℕ, ◌+◌, ◌<◌, ◌≤◌, true, cond, List, [], ◌∷◌, ◌++◌, map, length, ◌==◌, All}
use Rattle.rules.specs.declared.blocks.Size.{Size}
use Rattle.rules.specs.Trees.{Tree}
use Rattle.rules.specs.Links.{spells}
use Rattle.rules.specs.Plans.{Plan, size_at}
use Rattle.rules.specs.Packing.{Spot as Start, spots}
use Rattle.table.specs.declared.blocks.Block.{Block}
use Rattle.table.specs.Tables.{lefts, rights}
use Rattle.plan.specs.Sound.{table_tree}
use Rattle.packer.specs.declared.spots.Spot.{Spot}
use Rattle.packer.specs.declared.spots.Visit.{Visit}

-- the entries with the block of a link and its left edge on top, if it leads to one
abbrev pub put : ℕ → ℕ → List Spot → List Spot
put k x es = cond (k == 65535) es (record { block = k; left = x } ∷ es)

-- the entries with a block's children on top, the left one above the right one; x is the block's left edge
abbrev pub after : Block → ℕ → List Spot → List Spot
after b x es = put b.children.left (x + b.size.width) (put b.children.right x es)

-- the sizes of the rows
abbrev pub sizes_of : List Block → List Size
sizes_of bs = map (λ b. b.size) bs

-- the blocks of a tree, each with its left edge and its size, in depth-first order
abbrev pub visits_of : List Size → Tree → ℕ → List Visit
visits_of sizes t x = map (λ (s : Start). record { block = s.block; left = s.left; size = size_at sizes s.block }) (spots sizes t x)

-- the present blocks of a plan
abbrev pub visits : Plan → List Visit
visits p = visits_of p.sizes p.tree 0

-- what is still to come where these entries are on the stack
abbrev pub ahead_of : List Block → List Spot → List Visit
ahead_of bs [] = []
ahead_of bs (e ∷ es) = visits_of (sizes_of bs) (table_tree bs e.block) e.left ++ ahead_of bs es

-- the block is one of n, is not narrower than a column, and ends within the greatest number of columns
pub record Near (n : ℕ) (v : Visit) : Type 0 where
  pub known : v.block < n
  pub some : 0 < v.size.width
  pub edge : v.left + v.size.width ≤ 67108864

-- the entry's block is one of the rows, and the links from it on spell a tree
pub record Stands (bs : List Block) (e : Spot) : Type 0 where
  pub known : e.block < length bs
  pub spelt : spells (lefts bs) (rights bs) (length bs) e.block (table_tree bs e.block) ≡ true

-- a walk over the rows with these entries on a stack that has so much room
pub record Underway (bs : List Block) (es : List Spot) (room : ℕ) : Type 0 where
  pub few : length bs ≤ 512
  pub stand : All (Stands bs) es
  pub small : length (ahead_of bs es) ≤ length bs
  pub room_ahead : length (ahead_of bs es) ≤ room
  pub near : All (Near (length bs)) (ahead_of bs es)
