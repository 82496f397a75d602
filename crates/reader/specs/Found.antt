-- Blocks as they are found.
use Rattle.std.specs.Prelude.{◌≡◌, ℕ, List, [], ◌∷◌, ◌++◌, map, reverse, Some, Ok, Err, Result}
use Rattle.rules.specs.declared.refusals.Refusal.{Refusal}
use Rattle.names.specs.Entries.{name_of}
use Rattle.stack.specs.Stacked.{held}
use Rattle.reader.specs.declared.blocks.Found.{Found}
use Rattle.reader.specs.declared.blocks.Blocks.{Blocks}
use Rattle.reader.specs.Text.{Block, Answer, and_then, entry_of}

-- a block as the code holds it
abbrev pub block_of : Found → Block
block_of f = record { name = f.name.now; start = f.start; size = f.size }

-- the blocks that were found, in line order
abbrev pub blocks_of : Blocks → List Block
blocks_of bs = map block_of (reverse (held bs.found))

-- one more block has been read behind those before, or is refused
abbrev pub BlockRead : Result Block Refusal → List Block → Result (Unit {0}) Refusal → List Block → Type 0
BlockRead read before (Ok _) after = (next : List Block → Answer) → and_then read (λ b. next (before ++ b ∷ [])) ≡ next after
BlockRead read before (Err e) after = read ≡ Err e

-- the record of the block marks its name in the text
abbrev pub Named : List ℕ → Block → Type 0
Named text b = name_of text (entry_of b) ≡ Some b.name
