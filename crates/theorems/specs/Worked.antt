-- Worked cases, for a reader to check by hand.
use Rattle.std.specs.Prelude.{◌≡◌, ℕ, ◌<◌, ◌≤◌, true, false, List, [], ◌∷◌, Some, None}
use Rattle.rules.specs.declared.blocks.Size.{Size}
use Rattle.rules.specs.declared.blocks.Children.{Children}
use Rattle.rules.specs.declared.blocks.Letter.TheVariants.{Top, Bottom, Left as LeftEdge, Right as RightEdge}
use Rattle.rules.specs.declared.edits.Side.TheVariants.{Left, Right}
use Rattle.rules.specs.declared.edits.Edit.TheVariants.{Turn, Swap, TakeOut, PutIn, Move}
use Rattle.rules.specs.declared.refusals.Refusal.TheVariants.{LengthsDiffer, SideOutOfRange, UnknownLetter, WrongChild, WrongRoot, ChildTwice, Unreached, NoSuchBlock, SameBlock, MemoryTooShort, Absent, Present}
use Rattle.rules.specs.Letters.{letter_of, letter_kept}
use Rattle.rules.specs.Refusals.{number, place}
use Rattle.rules.specs.Trees.{Tree, empty, node, take_out, put_in}
use Rattle.rules.specs.Plans.{Plan, new_plan}
use Rattle.rules.specs.Edits.{edited, edit_refusal}
use Rattle.rules.specs.Loads.{Given, load_refusal, given_plan}
use Rattle.rules.specs.Packing.{Rect, packed, reach, height, column}
use Rattle.rules.specs.Book.{load, test, begin, keep, undo, pack, book, book_plan, kept_count}
use Rattle.theorems.specs.Histories.{pruned}

-- a width and a height
abbrev size : ℕ → ℕ → Size
size w h = record { width = w; height = h }

-- no block
abbrev none : ℕ
none = 65535

-- a left and a right child
abbrev pair : ℕ → ℕ → Children
pair l r = record { left = l; right = r }

-- a block on its own, with no children
abbrev leaf : ℕ → Tree
leaf i = node i empty empty

-- block i with its lower left corner at (x, y)
abbrev rect : ℕ → ℕ → ℕ → Size → Rect
rect i x y s = record { block = i; x = x; y = y; width = s.width; height = s.height }

-- the sizes of five blocks, 0 to 4
abbrev a : Size
a = size 4 3

abbrev b : Size
b = size 3 2

abbrev c : Size
c = size 2 4

abbrev d : Size
d = size 2 2

abbrev e : Size
e = size 5 1

-- Five free blocks: 0 is the root, with 1 and 2 as its left and right child, and 1 has 3 and 4.
abbrev pub five : Given
five = record {
  sizes = a ∷ b ∷ c ∷ d ∷ e ∷ [];
  letters = 70 ∷ 70 ∷ 70 ∷ 70 ∷ 70 ∷ [];
  children = pair 1 2 ∷ pair 3 4 ∷ pair none none ∷ pair none none ∷ pair none none ∷ [];
  root = 0;
  walk = 5;
}

-- the plan that they give
abbrev pub K : Plan
K = given_plan five

-- K as it is loaded and packed; of the placed blocks the last one stands first
pub record KCase : Type 0 where
  pub accepted : load_refusal five ≡ None
  pub tree : K.tree ≡ node 0 (node 1 (leaf 3) (leaf 4)) (leaf 2)
  pub places : packed K ≡ rect 2 0 3 c ∷ rect 4 4 2 e ∷ rect 3 7 0 d ∷ rect 1 4 0 b ∷ rect 0 0 0 a ∷ []
  pub width : reach (packed K) ≡ 9
  pub high : height (packed K) ≡ 7
  pub column_0 : column (packed K) 0 ≡ 7
  pub column_1 : column (packed K) 1 ≡ 7
  pub column_2 : column (packed K) 2 ≡ 3
  pub column_3 : column (packed K) 3 ≡ 3
  pub column_4 : column (packed K) 4 ≡ 3
  pub column_5 : column (packed K) 5 ≡ 3
  pub column_6 : column (packed K) 6 ≡ 3
  pub column_7 : column (packed K) 7 ≡ 3
  pub column_8 : column (packed K) 8 ≡ 3
  pub column_9 : column (packed K) 9 ≡ 0

-- without block 0 its right child is the root, and both subtrees stand under that
pub record TakeOutCase : Type 0 where
  pub tree : (edited (TakeOut 0) K).tree ≡ node 2 (node 1 (leaf 3) (leaf 4)) empty
  pub places : packed (edited (TakeOut 0) K) ≡ rect 4 2 2 e ∷ rect 3 5 0 d ∷ rect 1 2 0 b ∷ rect 2 0 0 c ∷ []
  pub width : reach (packed (edited (TakeOut 0) K)) ≡ 7
  pub high : height (packed (edited (TakeOut 0) K)) ≡ 4
  pub open_trial : book_plan (book (load five ∷ begin (TakeOut 0) ∷ [])) ≡ edited (TakeOut 0) K
  pub undone : book_plan (book (load five ∷ begin (TakeOut 0) ∷ undo ∷ [])) ≡ K

-- blocks 0 and 4 in each other's place
pub record SwapCase : Type 0 where
  pub places : packed (edited (Swap 0 4) K) ≡ rect 2 0 1 c ∷ rect 0 5 2 a ∷ rect 3 8 0 d ∷ rect 1 5 0 b ∷ rect 4 0 0 e ∷ []
  pub width : reach (packed (edited (Swap 0 4) K)) ≡ 10
  pub high : height (packed (edited (Swap 0 4) K)) ≡ 5

-- block 3 moved to the right of block 0: it stands between 0 and 2
pub record MoveCase : Type 0 where
  pub tree : (edited (Move 3 0 Right) K).tree ≡ node 0 (node 1 empty (leaf 4)) (node 3 empty (leaf 2))
  pub places : packed (edited (Move 3 0 Right) K) ≡ rect 2 0 5 c ∷ rect 3 0 3 d ∷ rect 4 4 2 e ∷ rect 1 4 0 b ∷ rect 0 0 0 a ∷ []
  pub high : height (packed (edited (Move 3 0 Right) K)) ≡ 9

-- one block, as wide as a block may be
abbrev pub wide : Given
wide = record { sizes = size 131072 1 ∷ []; letters = 70 ∷ []; children = pair none none ∷ []; root = 0; walk = 1 }

-- it fits 131,072 columns, and not 131,071
pub record WideCase : Type 0 where
  pub accepted : load_refusal wide ≡ None
  pub width : reach (packed (given_plan wide)) ≡ 131072
  pub fits : reach (packed (given_plan wide)) ≤ 131072
  pub exceeds : 131071 < reach (packed (given_plan wide))

-- three free blocks of one size, with these children and root 0
abbrev pub three : List Children → Given
three cs = record { sizes = a ∷ a ∷ a ∷ []; letters = 70 ∷ 70 ∷ 70 ∷ []; children = cs; root = 0; walk = 3 }

-- Links that are no tree: block 1 as the left child of 0 and the right child of 2; and blocks 1 and 2 as left children of each
-- other, with a root that has none.
pub record RefusedCases : Type 0 where
  pub child_twice : load_refusal (three (pair 1 none ∷ pair none none ∷ pair none 1 ∷ [])) ≡ Some (ChildTwice 1)
  pub child_twice_number : number (ChildTwice 1) ≡ 7
  pub child_twice_place : place (ChildTwice 1) ≡ 1
  pub unreached : load_refusal (three (pair none none ∷ pair 2 none ∷ pair 1 none ∷ [])) ≡ Some (Unreached 1)
  pub unreached_number : number (Unreached 1) ≡ 8
  pub unreached_place : place (Unreached 1) ≡ 1

-- Take out with one child on either side, and with two: the right child rises, and is taken out of its own subtree alike.
pub record RisingCase : Type 0 where
  pub left_only : take_out 1 (node 0 (node 1 (leaf 3) empty) empty) ≡ node 0 (leaf 3) empty
  pub right_only : take_out 1 (node 0 (node 1 empty (leaf 3)) empty) ≡ node 0 (leaf 3) empty
  pub both : take_out 0 (node 0 (leaf 1) (node 2 (leaf 3) (leaf 4))) ≡ node 2 (leaf 1) (node 4 (leaf 3) empty)

-- put in: the former child on that side becomes the child of the new block on that side
pub record PutInCase : Type 0 where
  pub left : put_in 9 0 Left (node 0 (leaf 1) (leaf 2)) ≡ node 0 (node 9 (leaf 1) empty) (leaf 2)
  pub right : put_in 9 0 Right (node 0 (leaf 1) (leaf 2)) ≡ node 0 (leaf 1) (node 9 empty (leaf 2))
  pub alone : put_in 9 7 Left empty ≡ leaf 9

-- block 1 turned, and no other
pub record TurnCase : Type 0 where
  pub sizes : (edited (Turn 1) K).sizes ≡ a ∷ size 2 3 ∷ c ∷ d ∷ e ∷ []

-- a tree whose bottom-left branch is 1, 2, 4, with a left child at 2; the same without that child; and their mirror images
abbrev pub bent : Tree
bent = node 0 (node 1 empty (node 2 (leaf 3) (leaf 4))) empty

abbrev pub straight : Tree
straight = node 0 (node 1 empty (node 2 empty (leaf 4))) empty

abbrev pub bent_mirror : Tree
bent_mirror = node 0 empty (node 1 (node 2 (leaf 4) (leaf 3)) empty)

abbrev pub straight_mirror : Tree
straight_mirror = node 0 empty (node 1 (node 2 (leaf 4) empty) empty)

-- each letter kept and broken, and the bytes of the letters
pub record LetterCases : Type 0 where
  pub b_kept : letter_kept Bottom 1 bent ≡ true
  pub b_broken : letter_kept Bottom 2 bent ≡ false
  pub l_kept : letter_kept LeftEdge 1 bent_mirror ≡ true
  pub l_broken : letter_kept LeftEdge 2 bent_mirror ≡ false
  pub r_kept : letter_kept RightEdge 4 straight ≡ true
  pub r_above : letter_kept RightEdge 0 straight ≡ false
  pub r_broken : letter_kept RightEdge 4 bent ≡ false
  pub t_kept : letter_kept Top 4 straight_mirror ≡ true
  pub t_above : letter_kept Top 0 straight_mirror ≡ false
  pub t_broken : letter_kept Top 4 bent_mirror ≡ false
  pub of_t : letter_of 84 ≡ Some Top
  pub of_b : letter_of 66 ≡ Some Bottom
  pub of_l : letter_of 76 ≡ Some LeftEdge
  pub of_r : letter_of 82 ≡ Some RightEdge
  pub of_small_f : letter_of 102 ≡ None

-- two blocks in a row, with these sizes, letters, root and walk memory
abbrev pub two : Size → List ℕ → ℕ → ℕ → Given
two s ls r w = record { sizes = a ∷ s ∷ []; letters = ls; children = pair 1 none ∷ pair none none ∷ []; root = r; walk = w }

-- no blocks
abbrev pub nothing : ℕ → Given
nothing r = record { sizes = []; letters = []; children = []; root = r; walk = 0 }

-- each test of a load, with later faults beside it that do not show
pub record LoadCases : Type 0 where
  pub lengths : load_refusal (two (size 0 0) (70 ∷ []) 5 1) ≡ Some LengthsDiffer
  pub memory : load_refusal (two (size 0 0) (71 ∷ 71 ∷ []) 5 1) ≡ Some MemoryTooShort
  pub side : load_refusal (two (size 1 131073) (71 ∷ 71 ∷ []) 5 2) ≡ Some (SideOutOfRange 1)
  pub letter : load_refusal (two a (70 ∷ 71 ∷ []) 5 2) ≡ Some (UnknownLetter 1)
  pub child : load_refusal (three (pair 1 2 ∷ pair 3 none ∷ pair none none ∷ [])) ≡ Some (WrongChild 1)
  pub root : load_refusal (two a (70 ∷ 70 ∷ []) 2 2) ≡ Some WrongRoot
  pub root_a_child : load_refusal (three (pair 1 none ∷ pair 2 0 ∷ pair none none ∷ [])) ≡ Some (ChildTwice 0)
  pub no_blocks : load_refusal (nothing none) ≡ None
  pub root_of_none : load_refusal (nothing 0) ≡ Some WrongRoot
  pub empty_places : packed new_plan ≡ []
  pub empty_width : reach (packed new_plan) ≡ 0
  pub empty_height : height (packed new_plan) ≡ 0

-- K without block 4
abbrev pub four_out : Plan
four_out = edited (TakeOut 4) K

-- each test of the edits, in its order
pub record EditCases : Type 0 where
  pub no_first : edit_refusal four_out (Swap 5 6) ≡ Some (NoSuchBlock 5)
  pub no_second : edit_refusal four_out (Move 4 5 Left) ≡ Some (NoSuchBlock 5)
  pub same : edit_refusal four_out (Swap 4 4) ≡ Some (SameBlock 4)
  pub first_absent : edit_refusal four_out (Swap 4 1) ≡ Some (Absent 4)
  pub second_absent : edit_refusal four_out (Move 1 4 Left) ≡ Some (Absent 4)
  pub turn_absent : edit_refusal four_out (Turn 4) ≡ Some (Absent 4)
  pub put_present : edit_refusal four_out (PutIn 1 9 Left) ≡ Some (Present 1)
  pub put_under_none : edit_refusal four_out (PutIn 4 9 Left) ≡ Some (NoSuchBlock 9)
  pub put_under_itself : edit_refusal four_out (PutIn 4 4 Left) ≡ Some (Absent 4)
  pub put_in : edit_refusal four_out (PutIn 4 0 Left) ≡ None

-- An undone trial with a pack in it, an empty one that is kept and a refused test leave no trace; a kept trial counts.
pub record HistoryCase : Type 0 where
  pub pruning : pruned
      (load five ∷ begin (TakeOut 0) ∷ pack ∷ undo ∷ begin (Turn 5) ∷ keep ∷ test (Turn 5) ∷ pack ∷ begin (Turn 1) ∷ keep ∷ [])
      ≡ load five ∷ pack ∷ begin (Turn 1) ∷ keep ∷ []
  pub counted : kept_count (book (load five ∷ begin (Turn 5) ∷ keep ∷ begin (Turn 1) ∷ keep ∷ begin (Turn 2) ∷ undo ∷ [])) ≡ 1

-- the whole table
pub record WorkedCases : Type 0 where
  pub five_blocks : KCase
  pub taken_out : TakeOutCase
  pub swapped : SwapCase
  pub moved : MoveCase
  pub one_wide : WideCase
  pub refused : RefusedCases
  pub risen : RisingCase
  pub put : PutInCase
  pub turned : TurnCase
  pub lettered : LetterCases
  pub loads : LoadCases
  pub edits : EditCases
  pub histories : HistoryCase
