-- Load: its arguments, its tests, and the plan that it gives.
use Rattle.std.specs.Prelude.{ℕ, zero, suc, ◌+◌, Bool, true, false, cond, not, ◌&&◌, ◌||◌, List, map, length, Some, None, Option, ◌==◌, nat_le, nat_lt, slice_index}
use Rattle.rules.specs.declared.blocks.Size.{Size}
use Rattle.rules.specs.declared.blocks.Letter.{Letter}
use Rattle.rules.specs.declared.blocks.Letter.TheVariants.{Free}
use Rattle.rules.specs.declared.blocks.Children.{Children}
use Rattle.rules.specs.declared.refusals.Refusal.{Refusal}
use Rattle.rules.specs.declared.refusals.Refusal.TheVariants.{TooManyBlocks, LengthsDiffer, SideOutOfRange, UnknownLetter, WrongChild, WrongRoot, ChildTwice, Unreached, MemoryTooShort}
use Rattle.rules.specs.Refusals.{when}
use Rattle.rules.specs.Trees.{count}
use Rattle.rules.specs.Links.{left_of, right_of, tree_of, named}
use Rattle.rules.specs.Letters.{letter_of}
use Rattle.rules.specs.Plans.{Plan, size_at, size_fits}

-- What load is given: the lists, the root, and the length of the walk memory. Letters are bytes.
pub record Given : Type 0 where
  pub sizes : List Size
  pub letters : List ℕ
  pub children : List Children
  pub root : ℕ
  pub walk : ℕ

-- the first of the c numbers from i on that the test finds
unfoldable pub first : (ℕ → Bool) → ℕ → ℕ → Option ℕ
first f i zero = None
first f i (suc c) = cond (f i) (Some i) (first f (i + 1) c)

-- the refusal at the block that was found, else what comes after
abbrev pub when_found : Option ℕ → (ℕ → Refusal) → Option Refusal → Option Refusal
when_found (Some k) r after = Some (r k)
when_found None r after = after

-- a child number is right if it is a block's or 65,535
abbrev pub link_fits : ℕ → ℕ → Bool
link_fits n k = nat_lt k n || k == 65535

-- The tests of single blocks: a side out of range; a letter none of the five; a wrong child; child twice, or child and root;
-- no way from the root.
abbrev pub wrong_size : List Size → ℕ → Bool
wrong_size ss i = not (size_fits (size_at ss i))

-- something was found
abbrev pub is_some : {A : Type 0} → Option A → Bool
is_some (Some x) = true
is_some None = false

-- block i's letter is none of the five
abbrev pub wrong_letter : List ℕ → ℕ → Bool
wrong_letter ls i = not (is_some (letter_of (slice_index ls i)))

-- a child of block i is neither a block nor 65,535
abbrev pub wrong_children : List Children → ℕ → Bool
wrong_children cs i = not (link_fits (length cs) (left_of cs i) && link_fits (length cs) (right_of cs i))

-- block k is child twice, or child and root
abbrev pub named_twice : List Children → ℕ → ℕ → Bool
named_twice cs root k = nat_lt 1 (named cs root k)

-- block k does not stand in the tree that the links spell from the root on
abbrev pub unreached : List Children → ℕ → ℕ → Bool
unreached cs root k = count k (tree_of cs root) == 0

-- with no blocks the root is 65,535, else a block
abbrev pub wrong_root : ℕ → ℕ → Bool
wrong_root n root = cond (n == 0) (not (root == 65535)) (nat_le n root)

-- 1, 2, 18
abbrev pub room_refusal : Given → Option Refusal → Option Refusal
room_refusal g after =
    when (nat_lt 512 (length g.sizes)) (TooManyBlocks 0)
    (when (not (length g.letters == length g.sizes && length g.children == length g.sizes)) LengthsDiffer
    (when (nat_lt g.walk (length g.sizes)) MemoryTooShort after))

-- 3, 4, 5: the first block at fault
abbrev pub block_refusal : Given → Option Refusal → Option Refusal
block_refusal g after =
    when_found (first (wrong_size g.sizes) 0 (length g.sizes)) SideOutOfRange
    (when_found (first (wrong_letter g.letters) 0 (length g.letters)) UnknownLetter
    (when_found (first (wrong_children g.children) 0 (length g.children)) WrongChild after))

-- 6, 7, 8: the root, then the lowest block at fault
abbrev pub tree_refusal : List Children → ℕ → Option Refusal
tree_refusal cs root =
    when (wrong_root (length cs) root) WrongRoot
    (when_found (first (named_twice cs root) 0 (length cs)) ChildTwice
    (when_found (first (unreached cs root) 0 (length cs)) Unreached None))

-- the first refusal of a load, if there is one
unfoldable pub load_refusal : Given → Option Refusal
load_refusal g = room_refusal g (block_refusal g (tree_refusal g.children g.root))

-- the letter of a byte, of one that is none of the five free
abbrev pub letter_or_free : ℕ → Letter
letter_or_free b = elim (letter_of b) [ Some l ↦ l | None ↦ Free ]

-- the plan that is given, every block present
unfoldable pub given_plan : Given → Plan
given_plan g = record { sizes = g.sizes; letters = map letter_or_free g.letters; tree = tree_of g.children g.root }
