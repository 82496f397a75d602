-- The row that a turn writes.
use Rattle.rules.specs.Edits.{turned}
use Rattle.table.specs.declared.blocks.Block.{Block}

-- the row with its sides exchanged
abbrev pub turned_row : Block → Block
turned_row b = record { size = turned b.size; letter = b.letter; children = b.children; present = b.present }
