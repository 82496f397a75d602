-- What a walk has ahead of it.
use Rattle.std.specs.Prelude.{List}
use Rattle.stack.specs.Stacked.{held}
use Rattle.packer.specs.declared.spots.Visit.{Visit}
use Rattle.packer.specs.declared.walking.Walk.{Walk}
use Rattle.packer.specs.Walks.{ahead_of}

-- the blocks that it has not come to, in depth-first order
abbrev pub ahead : Walk → List Visit
ahead w = ahead_of w.blocks.now (held w.stack)
