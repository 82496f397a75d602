-- Sample texts, each beside what is written or read of it.
use Rattle.std.specs.Prelude.{◌≡◌, ℕ, [], ◌∷◌, Some, None, codes}
use Rattle.rules.specs.declared.placements.Placement.{Placement}
use Rattle.rules.specs.declared.refusals.Refusal.TheVariants.{LengthsDiffer, SideOutOfRange, MemoryTooShort, NoName}
use Rattle.names.specs.declared.entries.Entry.{Entry}
use Rattle.writer.specs.Texts.{pl_text, refusal_line}
use Rattle.writer.specs.Answers.{writer_refusal}
use Rattle.writer.specs.Readings.{read_pl}

-- a name of so many bytes from so many on
abbrev name_at : ℕ → ℕ → Entry
name_at start len = record { start = start; len = len; size = record { width = 1; height = 1 } }

-- a block at x and y, of width 4 and height 3
abbrev block_at : ℕ → ℕ → Placement
block_at x y = record { x = x; y = y; width = 4; height = 3 }

-- an absent block
abbrev absent : Placement
absent = record { x = 0; y = 0; width = 0; height = 0 }

-- what is written, refused and read
pub record Writings : Type 0 where
  pub no_blocks : pl_text [] [] [] ≡ codes "UCLA pl 1.0\n\n"
  pub second_absent :
      pl_text (codes "a, b_2 (C)") (name_at 0 1 ∷ name_at 3 3 ∷ name_at 8 1 ∷ []) (block_at 0 0 ∷ absent ∷ block_at 1048576 30 ∷ [])
      ≡ codes "UCLA pl 1.0\n\na 0 0\nC 1048576 30\n"
  pub read : read_pl (codes "UCLA pl 1.0\n\na 0 0\nC 1048576 30\n")
      ≡ Some (record { name = codes "a"; x = 0; y = 0 } ∷ record { name = codes "C"; x = 1048576; y = 30 } ∷ [])
  pub no_empty_line : read_pl (codes "UCLA pl 1.0\na 0 0\n") ≡ None
  pub two_words : read_pl (codes "UCLA pl 1.0\n\na 0\n") ≡ None
  pub lists_differ : writer_refusal (codes "a") (name_at 0 1 ∷ []) [] 100 ≡ Some LengthsDiffer
  pub no_name : writer_refusal (codes "a, b") (name_at 0 1 ∷ name_at 0 2 ∷ []) (block_at 0 0 ∷ absent ∷ []) 100 ≡ Some (NoName 1)
  pub past_the_end : writer_refusal (codes "a") (name_at 0 2 ∷ []) (block_at 0 0 ∷ []) 100 ≡ Some (NoName 0)
  pub one_byte_short : writer_refusal (codes "a") (name_at 0 1 ∷ []) (block_at 0 0 ∷ []) 18 ≡ Some MemoryTooShort
  pub just_enough : writer_refusal (codes "a") (name_at 0 1 ∷ []) (block_at 0 0 ∷ []) 19 ≡ None
  pub refused : refusal_line (SideOutOfRange 12) ≡ codes "refused 3 at 12\n"
