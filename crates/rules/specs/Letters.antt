-- Boundary letters.
use Rattle.std.specs.Prelude.{ℕ, Bool, true, false, cond, ◌&&◌, ◌||◌, List, [], ◌∷◌, Some, None, codes, Option, ◌==◌}
use Rattle.rules.specs.declared.blocks.Letter.{Letter}
use Rattle.rules.specs.declared.blocks.Letter.TheVariants.{Free, Top, Bottom, Left, Right}
use Rattle.rules.specs.Trees.{Tree, leftmost, rightmost, left_foot, right_foot, bottom_left, bottom_right, no_left_child, no_right_child}

-- F free, T top, B bottom, L left, R right
abbrev pub letter_of : ℕ → Option Letter
letter_of b =
    cond (b == 70) (Some Free)
    (cond (b == 84) (Some Top) (cond (b == 66) (Some Bottom) (cond (b == 76) (Some Left) (cond (b == 82) (Some Right) None))))

-- a letter by its byte, as it is printed
abbrev pub letter_name : Letter → List ℕ
letter_name Free = codes "F"
letter_name Top = codes "T"
letter_name Bottom = codes "B"
letter_name Left = codes "L"
letter_name Right = codes "R"

-- whether i stands in the list
unfoldable pub among : ℕ → List ℕ → Bool
among i [] = false
among i (k ∷ ks) = i == k || among i ks

-- Whether block i of the tree keeps its letter: F always; B on the leftmost branch; L on the rightmost;
-- R on the bottom-left branch, if no block of it has a left child; T on the bottom-right, if none has a right child.
abbrev pub letter_kept : Letter → ℕ → Tree → Bool
letter_kept Free i t = true
letter_kept Bottom i t = among i (leftmost t)
letter_kept Left i t = among i (rightmost t)
letter_kept Right i t = no_left_child (left_foot t) && among i (bottom_left t)
letter_kept Top i t = no_right_child (right_foot t) && among i (bottom_right t)
