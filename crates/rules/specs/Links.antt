-- The tree that child pairs spell.
use Rattle.std.specs.Prelude.{◌≡◌, ℕ, zero, suc, ◌+◌, ◌<◌, Bool, cond, ◌&&◌, List, length, ◌==◌, nat_lt, slice_index_or}
use Rattle.rules.specs.declared.blocks.Children.{Children}
use Rattle.rules.specs.Trees.{Tree, empty, node}

-- the left child of block i
abbrev pub left_of : List Children → ℕ → ℕ
left_of cs i = (slice_index_or cs i (record { left = 0; right = 0 })).left

-- the right child of block i
abbrev pub right_of : List Children → ℕ → ℕ
right_of cs i = (slice_index_or cs i (record { left = 0; right = 0 })).right

-- the tree below the link i, at most f levels of it, where L and R give each block's children
unfoldable pub grow : (ℕ → ℕ) → (ℕ → ℕ) → ℕ → ℕ → Tree
grow L R zero i = empty
grow L R (suc f) i = cond (i == 65535) empty (node i (grow L R f (L i)) (grow L R f (R i)))

-- the tree of the child pairs from the root on; no path has more levels than there are blocks
unfoldable pub tree_of : List Children → ℕ → Tree
tree_of cs root = grow (left_of cs) (right_of cs) (length cs) root

-- the links from i on spell the tree, and its blocks are below n
abbrev pub Spells : (ℕ → ℕ) → (ℕ → ℕ) → ℕ → ℕ → Tree → Type 0
Spells L R n i empty = i ≡ 65535
Spells L R n i (node k l r) = (i ≡ k) × (k < n) × Spells L R n (L k) l × Spells L R n (R k) r

-- the same as a test
unfoldable pub spells : (ℕ → ℕ) → (ℕ → ℕ) → ℕ → ℕ → Tree → Bool
spells L R n i empty = i == 65535
spells L R n i (node k l r) = i == k && (nat_lt k n && (spells L R n (L k) l && spells L R n (R k) r))

-- a path of links leads from the root to a block
pub data Path : List Children → ℕ → ℕ → Type 0 where
  at_root : {cs : List Children} {root : ℕ} → root < length cs → Path cs root root
  to_left : {cs : List Children} {root i : ℕ} → Path cs root i → left_of cs i < length cs → Path cs root (left_of cs i)
  to_right : {cs : List Children} {root i : ℕ} → Path cs root i → right_of cs i < length cs → Path cs root (right_of cs i)

-- the sum of g over the numbers below n
unfoldable pub sum_below : (ℕ → ℕ) → ℕ → ℕ
sum_below g zero = 0
sum_below g (suc n) = g n + sum_below g n

-- how many of the links f p, p below n, lead to block k
unfoldable pub leading : (ℕ → ℕ) → ℕ → ℕ → ℕ
leading f n k = sum_below (λ p. cond (f p == k) 1 0) n

-- how often block k is named: as a left child, as a right child, as the root
abbrev pub named : List Children → ℕ → ℕ → ℕ
named cs root k = (leading (left_of cs) (length cs) k + leading (right_of cs) (length cs) k) + cond (root == k) 1 0
