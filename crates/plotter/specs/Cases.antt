-- Sample texts, each beside what is plotted of it.
use Rattle.std.specs.Prelude.{◌≡◌, ℕ, [], ◌∷◌, Ok, codes}
use Rattle.reader.specs.Text.{Block, said}
use Rattle.plotter.specs.Said.{plot_text}

-- a block by its name's byte, its width and its height
abbrev block : ℕ → ℕ → ℕ → Block
block name width height = record { name = name ∷ []; start = 0; size = record { width = width; height = height } }

-- what is plotted
pub record PlotsOf : Type 0 where
  -- b is a's left child and stands beside it; c is its right child and stands on it
  pub three_blocks :
      plot_text
      (said
      (codes "UCSC blocks 1.0\nNumSoftRectangularBlocks : 0\nNumHardRectilinearBlocks : 3\nNumTerminals : 0\na hardrectilinear 4 (0, 0) (0, 3) (4, 3) (4, 0)\nb hardrectilinear 4 (0, 0) (0, 2) (3, 2) (3, 0)\nc hardrectilinear 4 (0, 0) (0, 5) (2, 5) (2, 0)\n"))
      ≡ codes "UCLA pl 1.0\n\na 0 0\nb 4 0\nc 0 3\n"
  -- d and e are the children of b: d stands beside it, and e stands on both
  pub five_blocks : plot_text (Ok (block 97 4 3 ∷ block 98 3 2 ∷ block 99 2 5 ∷ block 100 1 1 ∷ block 101 6 2 ∷ [])) ≡ codes "UCLA pl 1.0\n\na 0 0\nb 4 0\nc 0 3\nd 7 0\ne 4 2\n"
  pub no_blocks : plot_text (Ok []) ≡ codes "UCLA pl 1.0\n\n"
  pub no_text : plot_text (said []) ≡ codes "refused 13 at 0\n"
