-- Trees of block numbers, and what the edits do to them.
use Rattle.std.specs.Prelude.{◌≡◌, ℕ, suc, ◌+◌, Bool, true, false, cond, ◌⊎◌, List, [], ◌∷◌, ◌++◌, ◌==◌}
use Rattle.rules.specs.declared.edits.Side.{Side}
use Rattle.rules.specs.declared.edits.Side.TheVariants.{Left, Right}

-- A tree is empty, or a block with a left and a right subtree.
pub data Tree : Type 0 where
  empty : Tree
  node : ℕ → Tree → Tree → Tree

-- how often block k stands in the tree
unfoldable pub count : ℕ → Tree → ℕ
count k empty = 0
count k (node i l r) = cond (k == i) 1 0 + (count k l + count k r)

-- how many blocks the tree has
unfoldable pub size : Tree → ℕ
size empty = 0
size (node i l r) = suc (size l + size r)

-- the blocks in depth-first order: block, left subtree, right subtree
abbrev pub blocks : Tree → List ℕ
blocks empty = []
blocks (node i l r) = i ∷ (blocks l ++ blocks r)

-- j for i, i for j, and any other number for itself
abbrev pub exchange : ℕ → ℕ → ℕ → ℕ
exchange i j k = cond (k == i) j (cond (k == j) i k)

-- the tree with i and j in each other's place
unfoldable pub swap : ℕ → ℕ → Tree → Tree
swap i j empty = empty
swap i j (node k l r) = node (exchange i j k) (swap i j l) (swap i j r)

-- What takes the place of a block that is taken out, of its two subtrees: nothing if there is none, the one that there is, or
-- the right child above both subtrees, itself taken out of the right one by this same rule.
unfoldable pub join : Tree → Tree → Tree
join l empty = l
join empty (node j x y) = node j x y
join (node i a b) (node j x y) = node j (node i a b) (join x y)

-- the tree without block i
unfoldable pub take_out : ℕ → Tree → Tree
take_out i empty = empty
take_out i (node k l r) = cond (k == i) (join l r) (node k (take_out i l) (take_out i r))

-- the left subtree of a block under which i is put in on side s: if that is the left, i stands over what was there
abbrev pub left_under : Side → ℕ → Tree → Tree
left_under Left i l = node i l empty
left_under Right i l = l

-- the right subtree of that block
abbrev pub right_under : Side → ℕ → Tree → Tree
right_under Left i r = r
right_under Right i r = node i empty r

-- the tree with i put in under j on side s
unfoldable pub hang : Side → ℕ → ℕ → Tree → Tree
hang s i j empty = empty
hang s i j (node k l r) =
    cond (k == j) (node k (left_under s i l) (right_under s i r)) (node k (hang s i j l) (hang s i j r))

-- the tree with i put in under j on that side; in an empty tree i becomes the root
unfoldable pub put_in : ℕ → ℕ → Side → Tree → Tree
put_in i j s empty = node i empty empty
put_in i j s (node k l r) = hang s i j (node k l r)

-- x stands in the list
abbrev pub Among : {A : Type 0} → A → List A → Type 0
Among x [] = ⊥
Among x (y ∷ ys) = (x ≡ y) ⊎ Among x ys

-- no number stands in the list twice
abbrev pub Distinct : List ℕ → Type 0
Distinct [] = Unit {0}
Distinct (i ∷ is) = (Among i is → ⊥) × Distinct is

-- the leftmost branch: the root and its successive left children
abbrev pub leftmost : Tree → List ℕ
leftmost empty = []
leftmost (node i l r) = i ∷ leftmost l

-- the rightmost branch: the root and its successive right children
abbrev pub rightmost : Tree → List ℕ
rightmost empty = []
rightmost (node i l r) = i ∷ rightmost r

-- the subtree at the last block of the leftmost branch
abbrev pub left_foot : Tree → Tree
left_foot empty = empty
left_foot (node i empty r) = node i empty r
left_foot (node i (node j a b) r) = left_foot (node j a b)

-- the subtree at the last block of the rightmost branch
abbrev pub right_foot : Tree → Tree
right_foot empty = empty
right_foot (node i l empty) = node i l empty
right_foot (node i l (node j a b)) = right_foot (node j a b)

-- the bottom-left branch: the last block of the leftmost branch and its successive right children
abbrev pub bottom_left : Tree → List ℕ
bottom_left t = rightmost (left_foot t)

-- the bottom-right branch: the last block of the rightmost branch and its successive left children
abbrev pub bottom_right : Tree → List ℕ
bottom_right t = leftmost (right_foot t)

-- no block of the rightmost branch has a left child
abbrev pub no_left_child : Tree → Bool
no_left_child empty = true
no_left_child (node i empty r) = no_left_child r
no_left_child (node i (node j a b) r) = false

-- no block of the leftmost branch has a right child
abbrev pub no_right_child : Tree → Bool
no_right_child empty = true
no_right_child (node i l empty) = no_right_child l
no_right_child (node i l (node j a b)) = false
