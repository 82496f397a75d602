-- The rows that a load writes.
use Rattle.std.specs.Prelude.{ℕ, true, List, map, zip}
use Rattle.rules.specs.declared.blocks.Size.{Size}
use Rattle.rules.specs.declared.blocks.Children.{Children}
use Rattle.rules.specs.Loads.{letter_or_free}
use Rattle.table.specs.declared.blocks.Block.{Block}

-- the row of a block that is loaded
abbrev pub loaded_row : Size → ℕ → Children → Block
loaded_row s l c = record { size = s; letter = letter_or_free l; children = c; present = true }

-- a row for each size, with the letter and the children beside it
abbrev pub loaded_rows : List Size → List ℕ → List Children → List Block
loaded_rows ss ls cs = map (λ p. loaded_row p.0.0 p.0.1 p.1) (zip (zip ss ls) cs)
