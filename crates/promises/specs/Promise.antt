-- The whole promise of an accepted packing, in the subject's words: over the placement records, the answered width and height,
-- and the skyline as handed back.
use Rattle.std.specs.Prelude.{◌≡◌, ℕ, ◌+◌, ◌<◌, ◌≤◌, true, ◌≢◌, ◌⊎◌, List, Some, slice_index_or}
use Rattle.rules.specs.declared.placements.Placement.{Placement}
use Rattle.rules.specs.declared.edits.Edit.TheVariants.{TakeOut}
use Rattle.rules.specs.declared.edits.Side.TheVariants.{Left, Right}
use Rattle.rules.specs.Trees.{Tree, Among, leftmost, rightmost, right_foot, bottom_right, no_right_child}
use Rattle.rules.specs.Plans.{block_count}
use Rattle.rules.specs.Skylines.{Sky}
use Rattle.rules.specs.Book.{Call, book, book_plan, in_force, new_book, state_after}
use Rattle.theorems.specs.Presence.{last_of}
use Rattle.theorems.specs.Histories.{Without}
use Rattle.geometry.specs.Relations.{Root, Child}
use Rattle.promises.specs.Packs.{nowhere, Packs}

-- the record of block i
abbrev pub at : List Placement → ℕ → Placement
at rs i = slice_index_or rs i nowhere

-- placed means a width above 0
abbrev pub Placed : Placement → Type 0
Placed r = 0 < r.width

-- column c lies in the span
abbrev pub Spans : Placement → ℕ → Type 0
Spans r c = (r.x ≤ c) × (c < r.x + r.width)

-- the unit cell with lower left corner (c, d) lies in the block
abbrev pub Covers : Placement → ℕ → ℕ → Type 0
Covers r c d = Spans r c × (r.y ≤ d) × (d < r.y + r.height)

-- the spans have a column in common
abbrev pub Meets : Placement → Placement → Type 0
Meets r q = (c : ℕ) × Spans r c × Spans q c

-- r stands on q: the spans meet, and its y is that one's top
abbrev pub On : Placement → Placement → Type 0
On r q = Meets r q × (r.y ≡ q.y + q.height)

-- r stands over q: the spans meet, and its y is at or above that one's top
abbrev pub Over : Placement → Placement → Type 0
Over r q = Meets r q × (q.y + q.height ≤ r.y)

-- h is the highest top of the blocks below n whose span holds column c, or 0 if there are none
pub record HighestTop (n : ℕ) (rs : List Placement) (c h : ℕ) : Type 0 where
  pub bounds : (i : ℕ) → i < n → Spans (at rs i) c → (at rs i).y + (at rs i).height ≤ h
  pub reached : (h ≡ 0) ⊎ ((i : ℕ) × (i < n) × Spans (at rs i) c × ((at rs i).y + (at rs i).height ≡ h))

-- the number of blocks, and the tree, in the book of the calls
abbrev pub blocks_of : List Call → ℕ
blocks_of cs = block_count (book cs).loaded

-- the tree in the book of the calls
abbrev pub tree_of : List Call → Tree
tree_of cs = (book_plan (book cs)).tree

-- What an accepted packing shows, cs being the calls since the plan was new, rs the records, and t the skyline handed back.
pub record Promise (cs : List Call) (width height : ℕ) (rs : List Placement) (t : Sky) : Type 0 where
  -- a loaded block is unplaced exactly when the last of its take outs, put ins and moves in force is a take out
  pub unplaced : (i : ℕ) → i < blocks_of cs → (Placed (at rs i) → ⊥) → last_of i (in_force (book cs)) ≡ Some (TakeOut i)
  pub taken_out : (i : ℕ) → i < blocks_of cs → last_of i (in_force (book cs)) ≡ Some (TakeOut i) → Placed (at rs i) → ⊥
  -- no unit cell lies in two blocks
  pub apart : (i j : ℕ) → i < blocks_of cs → j < blocks_of cs → i ≢ j → (c d : ℕ) → Covers (at rs i) c d → Covers (at rs j) c d → ⊥
  -- records, width and height are those that packing gives for the plan in the book of the calls
  pub by_book : Packs (book_plan (book cs)) width height rs
  -- and the same for every list that leaves out undone trials, refused calls, packs, and empty trials that were kept
  pub by_shorter : (ds : List Call) → Without new_book cs ds → (state_after ds ≡ state_after cs) × Packs (book_plan (book ds)) width height rs
  -- a placed block stands on the floor or on another
  pub stands : (i : ℕ) → i < blocks_of cs → Placed (at rs i)
      → ((at rs i).y ≡ 0) ⊎ ((j : ℕ) × (j < blocks_of cs) × (j ≢ i) × Placed (at rs j) × On (at rs i) (at rs j))
  -- each column of the skyline has the highest top of the blocks whose span holds it, or 0 if there are none
  pub columns : (c : ℕ) → c < t.columns → HighestTop (blocks_of cs) rs c (t.height c)
  -- blocks of the leftmost branch stand on the floor, those of the rightmost at x 0
  pub leftmost_on_floor : (i : ℕ) → Among i (leftmost (tree_of cs)) → (at rs i).y ≡ 0
  pub rightmost_at_left : (i : ℕ) → Among i (rightmost (tree_of cs)) → (at rs i).x ≡ 0
  -- nothing stands over the bottom-right branch if no block of it has a right child
  pub bottom_right_free : no_right_child (right_foot (tree_of cs)) ≡ true → (i j : ℕ) → Among i (bottom_right (tree_of cs))
      → j < blocks_of cs → Placed (at rs j) → Over (at rs j) (at rs i) → ⊥
  -- the root is at x 0, a left child at its parent's x plus width, a right child at its parent's x
  pub root_at_left : (i : ℕ) → Root (tree_of cs) i → (at rs i).x ≡ 0
  pub left_child : (i j : ℕ) → Child Left (tree_of cs) i j → (at rs j).x ≡ (at rs i).x + (at rs i).width
  pub right_child : (i j : ℕ) → Child Right (tree_of cs) i j → (at rs j).x ≡ (at rs i).x
