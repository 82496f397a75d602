-- The branches of a block table, by its links.
use Rattle.std.specs.Prelude.{ℕ, zero, suc, Bool, true, cond, ◌&&◌, List, [], ◌∷◌, length, ◌==◌, nat_lt}
use Rattle.rules.specs.declared.blocks.Letter.{Letter}
use Rattle.rules.specs.declared.blocks.Letter.TheVariants.{Free, Top, Bottom, Left as LeftEdge, Right as RightEdge}
use Rattle.rules.specs.declared.edits.Side.{Side}
use Rattle.rules.specs.declared.edits.Side.TheVariants.{Left, Right}
use Rattle.rules.specs.Sides.{opposite, child_on}
use Rattle.rules.specs.Letters.{among}
use Rattle.table.specs.declared.blocks.Block.{Block}
use Rattle.table.specs.Tables.{at}

-- the blocks from the link i on, each the child of the one before on that side, at most f of them
unfoldable pub branch : Side → List Block → ℕ → ℕ → List ℕ
branch s bs zero i = []
branch s bs (suc f) i = cond (nat_lt i (length bs)) (i ∷ branch s bs f (child_on s (at bs i).children)) []

-- the whole branch from the link i on
abbrev pub branch_of : Side → List Block → ℕ → List ℕ
branch_of s bs i = branch s bs (length bs) i

-- the last of a list, or k
unfoldable pub last_from : ℕ → List ℕ → ℕ
last_from k [] = k
last_from k (i ∷ is) = last_from i is

-- the last block of a branch, 65,535 of an empty one
abbrev pub end_of : List ℕ → ℕ
end_of is = last_from 65535 is

-- no block of the list has a child on that side
unfoldable pub childless : Side → List Block → List ℕ → Bool
childless s bs [] = true
childless s bs (i ∷ is) = child_on s (at bs i).children == 65535 && childless s bs is

-- i is on the branch that turns off at the foot of the branch from the root on, none of whose blocks has a child on side s
abbrev pub foot_kept : Side → ℕ → List Block → ℕ → Bool
foot_kept s i bs root =
    childless s bs (branch_of (opposite s) bs (end_of (branch_of s bs root)))
    && among i (branch_of (opposite s) bs (end_of (branch_of s bs root)))

-- whether block i keeps the letter, by the links
abbrev pub kept_by_links : Letter → ℕ → List Block → ℕ → Bool
kept_by_links Free i bs root = true
kept_by_links Bottom i bs root = among i (branch_of Left bs root)
kept_by_links LeftEdge i bs root = among i (branch_of Right bs root)
kept_by_links RightEdge i bs root = foot_kept Left i bs root
kept_by_links Top i bs root = foot_kept Right i bs root
