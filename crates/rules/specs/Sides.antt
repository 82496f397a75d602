-- The two sides of a block.
use Rattle.std.specs.Prelude.{ℕ}
use Rattle.rules.specs.declared.blocks.Children.{Children}
use Rattle.rules.specs.declared.edits.Side.{Side}
use Rattle.rules.specs.declared.edits.Side.TheVariants.{Left, Right}

-- the other side
abbrev pub opposite : Side → Side
opposite Left = Right
opposite Right = Left

-- the child on that side
abbrev pub child_on : Side → Children → ℕ
child_on Left c = c.left
child_on Right c = c.right

-- the children with another one on that side
abbrev pub with_child : Side → ℕ → Children → Children
with_child Left i c = record { left = i; right = c.right }
with_child Right i c = record { left = c.left; right = i }
