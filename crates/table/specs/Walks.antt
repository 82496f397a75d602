-- What a walk along a branch has ahead.
use Rattle.std.specs.Prelude.{ℕ, List}
use Rattle.table.specs.declared.branches.Branch.{Branch}
use Rattle.table.specs.Branches.{branch}

-- the blocks that are still to come
abbrev pub ahead : Branch → List ℕ
ahead b = branch b.side b.blocks.now b.left b.link
