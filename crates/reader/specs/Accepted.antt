-- The texts that are accepted, in plain words.
use Rattle.std.specs.Prelude.{◌≡◌, ℕ, suc, ◌+◌, ◌<◌, ◌≤◌, true, false, List, [], ◌∷◌, ◌++◌, length, Ok, codes}
use Rattle.rules.specs.Plans.{size_fits}
use Rattle.words.specs.Words.{Word}
use Rattle.grammar.specs.Words.{indent}
use Rattle.grammar.specs.Lines.{Line, used_from}
use Rattle.grammar.specs.Relations.{Header, CountLine, TerminalLine, BlockLine}
use Rattle.reader.specs.Text.{Block, known, words_of, said}

-- the line gives this block, and it may stand behind those before
pub record BlockIn (before : List Block) (l : Line) (b : Block) : Type 0 where
  pub says : BlockLine (words_of l) b.name b.size
  pub place : b.start ≡ l.start + indent l.bytes
  pub fits : size_fits b.size ≡ true
  pub new : known b.name before ≡ false
  pub room : length before < 512

-- block lines and terminal lines in any order, behind the blocks before, with the blocks in line order and the number of terminals
pub data BodyLines : List Block → List Line → List Block → ℕ → Type 0 where
  end_of_lines : {before : List Block} → BodyLines before [] [] 0
  terminal_line : {before : List Block} {l : Line} {ls : List Line} {bs : List Block} {t : ℕ} (n : Word) → TerminalLine (words_of l) n → BodyLines before ls bs t → BodyLines before (l ∷ ls) bs (suc t)
  block_line : {before : List Block} {l : Line} {ls : List Line} {b : Block} {bs : List Block} {t : ℕ} → BlockIn before l b → BodyLines (before ++ b ∷ []) ls bs t → BodyLines before (l ∷ ls) (b ∷ bs) t

-- a text with these blocks: a header, three counts that are right, and the body
pub record Accepted (text : List ℕ) (blocks : List Block) : Type 0 where
  pub few : length text ≤ 65536
  pub header : Line
  pub soft : Line
  pub hard : Line
  pub terminals : Line
  pub rest : List Line
  pub count : ℕ
  pub lines : used_from 1 0 text ≡ header ∷ soft ∷ hard ∷ terminals ∷ rest
  pub header_is : Header (words_of header)
  pub soft_is : CountLine (codes "NumSoftRectangularBlocks") (words_of soft) 0
  pub hard_is : CountLine (codes "NumHardRectilinearBlocks") (words_of hard) (length blocks)
  pub terminals_is : CountLine (codes "NumTerminals") (words_of terminals) count
  pub body_is : BodyLines [] rest blocks count

-- a text says these blocks just if it is such a text
abbrev pub AcceptedLaw : Type 0
AcceptedLaw = (text : List ℕ) (blocks : List Block) → (said text ≡ Ok blocks → Accepted text blocks) × (Accepted text blocks → said text ≡ Ok blocks)
