-- The tree of a block table, and what each edit writes.
use Rattle.std.specs.Prelude.{◌≡◌, ℕ, zero, suc, ◌<◌, ◌≤◌, Bool, true, false, cond, ◌&&◌, List, map, length, ◌==◌, ◌≢◌, nat_lt, slice_index_or, slice_set}
use Rattle.rules.specs.declared.blocks.Children.{Children}
use Rattle.rules.specs.declared.blocks.Letter.TheVariants.{Free}
use Rattle.rules.specs.declared.edits.Side.{Side}
use Rattle.rules.specs.Sides.{child_on, with_child}
use Rattle.rules.specs.Trees.{Tree, empty, count, exchange}
use Rattle.rules.specs.Links.{Spells}
use Rattle.table.specs.declared.blocks.Block.{Block}

-- what is read behind the table's end
abbrev pub blank : Block
blank = record { size = record { width = 0; height = 0 }; letter = Free; children = record { left = 0; right = 0 }; present = false }

-- row i
abbrev pub at : List Block → ℕ → Block
at bs i = slice_index_or bs i blank

-- the left link of row i
abbrev pub lefts : List Block → ℕ → ℕ
lefts bs i = (at bs i).children.left

-- the right link of row i
abbrev pub rights : List Block → ℕ → ℕ
rights bs i = (at bs i).children.right

-- The table holds the tree: its links from the root on spell it, and each block marked present, and no other, stands in it
-- once.
pub record Holds (bs : List Block) (root : ℕ) (t : Tree) : Type 0 where
  pub few : length bs ≤ 512
  pub spelt : Spells (lefts bs) (rights bs) (length bs) root t
  pub once : (k : ℕ) → count k t ≡ cond (at bs k).present 1 0

-- what a row has besides its links and its mark stays
pub record Keeps (bs cs : List Block) : Type 0 where
  pub long : length cs ≡ length bs
  pub sizes : (k : ℕ) → (at cs k).size ≡ (at bs k).size
  pub letters : (k : ℕ) → (at cs k).letter ≡ (at bs k).letter

-- the row with other children
abbrev pub with_children : Children → Block → Block
with_children c b = record { size = b.size; letter = b.letter; children = c; present = b.present }

-- the row with other links
abbrev pub linked : ℕ → ℕ → Block → Block
linked l r b = with_children (record { left = l; right = r }) b

-- the row with its links renamed
abbrev pub relinked : (ℕ → ℕ) → Block → Block
relinked f b = linked (f b.children.left) (f b.children.right) b

-- the table has a row i
abbrev pub within : ℕ → List Block → Bool
within i bs = nat_lt i (length bs)

-- it has both
abbrev pub both_within : ℕ → ℕ → List Block → Bool
both_within i j bs = within i bs && within j bs

-- i and j are both in the tree
abbrev pub has_both : ℕ → ℕ → Tree → Type 0
has_both i j t = (0 < count i t) × (0 < count j t)

-- rows i and j with each other's links
abbrev pub crossed : ℕ → ℕ → List Block → List Block
crossed i j bs =
    slice_set (slice_set bs i (with_children (at bs j).children (at bs i))) j (with_children (at bs i).children (at bs j))

-- the table in which i and j have exchanged their places
abbrev pub swapped : ℕ → ℕ → List Block → List Block
swapped i j bs = cond (both_within i j bs) (crossed i j (map (relinked (exchange i j)) bs)) bs

-- t for i
abbrev pub point : ℕ → ℕ → ℕ → ℕ
point i t k = cond (k == i) t k

-- l goes under j as its left child, and what stood there goes on down the right children, at most f of them; at the last one,
-- which has no right child, what stood there becomes the right child
unfoldable pub lowered : ℕ → ℕ → ℕ → List Block → List Block
lowered zero l j bs = bs
lowered (suc f) l j bs =
    cond (nat_lt j (length bs))
    (cond ((at bs j).children.right == 65535) (slice_set bs j (linked l (at bs j).children.left (at bs j)))
    (cond ((at bs j).children.left == 65535) (slice_set bs j (linked l (at bs j).children.right (at bs j)))
    (lowered f (at bs j).children.left (at bs j).children.right (slice_set bs j (linked l (at bs j).children.right (at bs j))))))
    bs

-- what takes the place of a block with the children l and r
abbrev pub heir : ℕ → ℕ → ℕ
heir l r = cond (r == 65535) l r

-- the table in which the subtrees at l and r are joined
abbrev pub joined : ℕ → ℕ → List Block → List Block
joined l r bs = cond (r == 65535) bs (cond (l == 65535) bs (lowered (length bs) l r bs))

-- the row of a block that is not in the tree
abbrev pub cleared : Block → Block
cleared b = record { size = b.size; letter = b.letter; children = record { left = 65535; right = 65535 }; present = false }

-- the table without i, whose children are l and r
abbrev pub taken_by : ℕ → ℕ → ℕ → List Block → List Block
taken_by i l r bs =
    slice_set (map (relinked (point i (heir l r))) (joined l r bs)) i (cleared (at (map (relinked (point i (heir l r))) (joined l r bs)) i))

-- the table without i, and its root
abbrev pub taken : ℕ → List Block → List Block
taken i bs = cond (within i bs) (taken_by i (at bs i).children.left (at bs i).children.right bs) bs

-- the root of the table without i
abbrev pub taken_root : ℕ → ℕ → List Block → ℕ
taken_root i root bs = cond (within i bs) (point i (heir (at bs i).children.left (at bs i).children.right) root) root

-- no child on either side
abbrev pub no_children : Children
no_children = record { left = 65535; right = 65535 }

-- the row of a block in the tree, with these children
abbrev pub hung : Children → Block → Block
hung c b = record { size = b.size; letter = b.letter; children = c; present = true }

-- the row of a block put in under c on that side, over what stood there
abbrev pub below_by : Side → Block → Block → Block
below_by s c b = hung (with_child s (child_on s c.children) no_children) b

-- the row of a block under which i is put in
abbrev pub above_by : Side → ℕ → Block → Block
above_by s i c = with_children (with_child s i c.children) c

-- the table with i put in under j
abbrev pub under : ℕ → ℕ → Side → List Block → List Block
under i j s bs = slice_set (slice_set bs i (below_by s (at bs j) (at bs i))) j (above_by s i (at bs j))

-- the table with i alone in the tree
abbrev pub alone : ℕ → List Block → List Block
alone i bs = slice_set bs i (hung no_children (at bs i))

-- the table with i put in under j, or alone if there was no root; and its root
abbrev pub put : ℕ → ℕ → Side → ℕ → List Block → List Block
put i j s root bs =
    cond (within i bs) (cond (root == 65535) (alone i bs) (cond (within j bs) (under i j s bs) bs)) bs

-- the root of the table with i put in
abbrev pub put_root : ℕ → ℕ → List Block → ℕ
put_root i root bs = cond (within i bs) (cond (root == 65535) i root) root

-- i is a row and not in the tree, and j is in it, unless the tree is empty
pub record FitsIn (i j : ℕ) (bs : List Block) (t : Tree) : Type 0 where
  pub known : i < length bs
  pub absent : count i t ≡ 0
  pub under_present : (t ≢ empty) → 0 < count j t
