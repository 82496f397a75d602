-- Sample texts, each beside what it says.
use Rattle.std.specs.Prelude.{◌≡◌, ℕ, List, [], ◌∷◌, ◌++◌, Ok, Err, codes}
use Rattle.rules.specs.declared.refusals.Refusal.TheVariants.{SideOutOfRange, NoHeader, WrongForm, WrongVertices, RepeatedName, WrongCount}
use Rattle.reader.specs.Text.{said}

-- a header, and counts for one block
abbrev heads : List ℕ
heads = codes "UCSC blocks 1.0\nNumSoftRectangularBlocks : 0\nNumHardRectilinearBlocks : 1\nNumTerminals : 0\n"

-- a block line
abbrev block_a : List ℕ
block_a = codes "a hardrectilinear 4 (0, 0) (0, 3) (4, 3) (4, 0)\n"

-- what the reader makes of each
pub record Readings : Type 0 where
  pub two_blocks :
      said
      (codes "UCSC blocks 1.0\n# five\n\nNumSoftRectangularBlocks : 0\r\nNumHardRectilinearBlocks: 2\nNumTerminals :1\n \t\n a hardrectilinear 4 (0, 0) (0, 3) (4, 3) (4, 0)\np1 terminal\nb\thardrectilinear 4 (0,0)(0,2)(3,2)(3,0)")
      ≡ Ok
      (record { name = codes "a"; start = 102; size = record { width = 4; height = 3 } } ∷
      record { name = codes "b"; start = 162; size = record { width = 3; height = 2 } } ∷ [])
  pub no_blocks : said (codes "#\nUCSC blocks 1.0\nNumSoftRectangularBlocks : 0\nNumHardRectilinearBlocks : 00\nNumTerminals : 0\n") ≡ Ok []
  pub empty_text : said [] ≡ Err (NoHeader 0)
  pub comments_only : said (codes "# a\n \t \n#b") ≡ Err (NoHeader 0)
  pub other_header : said (codes "# a\nUCSC blocks 1.1\n") ≡ Err (NoHeader 2)
  pub cr_without_lf : said (codes "UCSC blocks 1.0\r") ≡ Err (NoHeader 1)
  pub a_soft_block : said (codes "UCSC blocks 1.0\nNumSoftRectangularBlocks : 1\nNumHardRectilinearBlocks : 0\nNumTerminals : 0\n") ≡ Err WrongCount
  pub two_counts : said (codes "UCSC blocks 1.0\nNumSoftRectangularBlocks : 0\nNumHardRectilinearBlocks : 0\n") ≡ Err WrongCount
  pub counts_out_of_order : said (codes "UCSC blocks 1.0\n\nNumHardRectilinearBlocks : 0\n") ≡ Err (WrongForm 3)
  pub ten_digits : said (codes "UCSC blocks 1.0\nNumSoftRectangularBlocks : 0000000000\n") ≡ Err (WrongForm 2)
  pub other_way_round : said (heads ++ codes "a hardrectilinear 4 (0, 0) (4, 0) (4, 3) (0, 3)\n") ≡ Err (WrongVertices 5)
  pub too_wide : said (heads ++ codes "a hardrectilinear 4 (0, 0) (0, 3) (131073, 3) (131073, 0)\n") ≡ Err (SideOutOfRange 5)
  pub one_name_twice : said (heads ++ (block_a ++ (codes "\n" ++ block_a))) ≡ Err (RepeatedName 7)
  pub a_word_more : said (heads ++ codes "a hardrectilinear 4 (0, 0) (0, 3) (4, 3) (4, 0) (\n") ≡ Err (WrongForm 5)
