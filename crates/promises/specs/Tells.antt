-- What each sentence of the promise rules out: records that break one sentence keep no promise, whatever the calls were.
use Rattle.std.specs.Prelude.{◌≡◌, ℕ, List, [], ◌∷◌}
use Rattle.rules.specs.declared.placements.Placement.{Placement}
use Rattle.rules.specs.declared.edits.Edit.TheVariants.{TakeOut}
use Rattle.rules.specs.Trees.{Tree, empty, node}
use Rattle.rules.specs.Skylines.{Sky}
use Rattle.rules.specs.Book.{Call, pack, book, in_force}
use Rattle.promises.specs.Promise.{Promise, blocks_of, tree_of}

-- a block of 2 by 2 at (x, y)
abbrev pub square : ℕ → ℕ → Placement
square x y = record { x = x; y = y; width = 2; height = 2 }

-- four zeros
abbrev pub zeros : Placement
zeros = record { x = 0; y = 0; width = 0; height = 0 }

-- block 0 with left child 1
abbrev pub with_left : Tree
with_left = node 0 (node 1 empty empty) empty

-- block 0 with right child 1
abbrev pub with_right : Tree
with_right = node 0 empty (node 1 empty empty)

-- no promise holds of these records and this skyline
abbrev pub Broken : List Call → List Placement → Sky → Type 0
Broken cs rs t = (width height : ℕ) → Promise cs width height rs t → ⊥

-- one case for each sentence
pub record PromiseTells (cs : List Call) (t : Sky) : Type 0 where
  -- unplaced, with no edit in force
  pub unplaced : blocks_of cs ≡ 1 → in_force (book cs) ≡ [] → Broken cs (zeros ∷ []) t
  -- placed, and taken out
  pub taken_out : blocks_of cs ≡ 1 → in_force (book cs) ≡ TakeOut 0 ∷ [] → Broken cs (square 0 0 ∷ []) t
  -- two blocks that share one cell, (1, 1)
  pub apart : blocks_of cs ≡ 2 → Broken cs (square 0 0 ∷ square 1 1 ∷ []) t
  -- an answered width or height of 1 for a packing of no blocks, by the book of the calls, and by that of the calls without a pack
  pub width : (height : ℕ) (rs : List Placement) → Promise [] 1 height rs t → ⊥
  pub height : (width : ℕ) (rs : List Placement) → Promise [] width 1 rs t → ⊥
  pub shorter : (height : ℕ) (rs : List Placement) → Promise (pack ∷ []) 1 height rs t → ⊥
  -- a block in the air, alone
  pub stands : blocks_of cs ≡ 1 → Broken cs (square 0 1 ∷ []) t
  -- a block one above another
  pub stands_on : blocks_of cs ≡ 2 → Broken cs (square 0 0 ∷ square 0 3 ∷ []) t
  -- a block at the height of another's top, beside it
  pub stands_beside : blocks_of cs ≡ 2 → Broken cs (square 0 0 ∷ square 2 2 ∷ []) t
  -- a column lower than the block over it
  pub column_low : blocks_of cs ≡ 1 → t.columns ≡ 3 → t.height 1 ≡ 1 → Broken cs (square 0 0 ∷ []) t
  -- a column with a height where no block is
  pub column_high : blocks_of cs ≡ 1 → t.columns ≡ 3 → t.height 2 ≡ 2 → Broken cs (square 0 0 ∷ []) t
  -- a left child above the floor
  pub leftmost : tree_of cs ≡ with_left → Broken cs (square 0 0 ∷ square 2 1 ∷ []) t
  -- a right child off the left edge
  pub rightmost : tree_of cs ≡ with_right → Broken cs (square 0 0 ∷ square 1 2 ∷ []) t
  -- a block on one of the bottom-right branch
  pub bottom_right : blocks_of cs ≡ 2 → tree_of cs ≡ with_left → Broken cs (square 0 0 ∷ square 0 2 ∷ []) t
  -- a root off the left edge
  pub root : tree_of cs ≡ node 0 empty empty → Broken cs (square 1 0 ∷ []) t
  -- a left child that does not start at its parent's right edge
  pub left_child : tree_of cs ≡ with_left → Broken cs (square 0 0 ∷ square 3 0 ∷ []) t
  -- a right child that does not start at its parent's left edge
  pub right_child : tree_of cs ≡ with_right → Broken cs (square 0 0 ∷ square 1 2 ∷ []) t

-- so it is for every list of calls and every skyline
abbrev pub EachSentenceTells : Type 0
EachSentenceTells = (cs : List Call) (t : Sky) → PromiseTells cs t
