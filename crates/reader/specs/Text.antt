-- What a .blocks text says: its blocks, or why it is refused.
use Rattle.std.specs.Prelude.{ℕ, ◌+◌, Bool, cond, not, ◌&&◌, List, [], ◌∷◌, ◌++◌, map, length, drop, is_some, Some, None, Ok, Err, codes, Option, Result, ◌==◌, nat_le, nat_lt}
use Rattle.std.specs.List.{list_any}
use Rattle.std.specs.Str.{bytes_eq}
use Rattle.rules.specs.declared.blocks.Size.{Size}
use Rattle.rules.specs.declared.refusals.Refusal.{Refusal}
use Rattle.rules.specs.declared.refusals.Refusal.TheVariants.{TooManyBlocks, SideOutOfRange, NoHeader, WrongForm, WrongVertices, RepeatedName, WrongCount, MemoryTooShort, TextTooLong}
use Rattle.rules.specs.Plans.{size_fits}
use Rattle.words.specs.Words.{Word}
use Rattle.names.specs.declared.entries.Entry.{Entry}
use Rattle.grammar.specs.declared.outlines.Corners.{Corners}
use Rattle.grammar.specs.Words.{words, indent}
use Rattle.grammar.specs.Lines.{Line, used_from}
use Rattle.grammar.specs.Forms.{header_of, count_of, terminal_of, outline_of, size_of}
use Rattle.reader.specs.declared.counts.Counts.{Counts}

-- a block of a text: its name, where the name begins in the text, and its size
pub record Block : Type 0 where
  pub name : Word
  pub start : ℕ
  pub size : Size

-- the blocks of a text in line order, or the refusal
abbrev pub Answer : Type 0
Answer = Result (List Block) Refusal

-- what follows an answer that is no refusal
abbrev pub and_then : {A B : Type 0} → Result A Refusal → (A → Result B Refusal) → Result B Refusal
and_then (Ok a) next = next a
and_then (Err e) next = Err e

-- one of these blocks has this name
abbrev pub known : Word → List Block → Bool
known n bs = list_any (λ b. bytes_eq b.name n) bs

-- the words of a line
abbrev pub words_of : Line → List Word
words_of l = words l.bytes

-- the block of this name and size in a line
abbrev pub block_in : Line → Word → Size → Block
block_in l n s = record { name = n; start = l.start + indent l.bytes; size = s }

-- the same behind these blocks
abbrev pub new_block : List Block → Line → Word → Size → Result Block Refusal
new_block blocks l n s =
    cond (not (size_fits s)) (Err (SideOutOfRange l.number))
    (cond (known n blocks) (Err (RepeatedName l.number))
    (cond (nat_le 512 (length blocks)) (Err (TooManyBlocks l.number))
    (Ok (block_in l n s))))

-- the same where the vertices of the line may be those of no rectangle
abbrev pub sized_block : List Block → Line → Word → Option Size → Result Block Refusal
sized_block blocks l n None = Err (WrongVertices l.number)
sized_block blocks l n (Some s) = new_block blocks l n s

-- the block of a line behind these blocks
abbrev pub outlined_block : List Block → Line → Option (Word × Corners) → Result Block Refusal
outlined_block blocks l None = Err (WrongForm l.number)
outlined_block blocks l (Some p) = sized_block blocks l p.0 (size_of p.1)

-- the counts against the lines; no line is soft
abbrev pub counted : Counts → List Block → ℕ → Answer
counted c blocks terminals =
    cond (c.soft == 0 && (c.hard == length blocks && c.terminals == terminals)) (Ok blocks) (Err WrongCount)

-- Block lines and terminal lines in any order, behind these blocks and so many terminals, up to the end.
unfoldable pub body : Counts → List Block → ℕ → List Line → Answer
body c blocks terminals [] = counted c blocks terminals
body c blocks terminals (l ∷ ls) =
    cond (is_some (terminal_of (words_of l))) (body c blocks (terminals + 1) ls)
    (and_then (outlined_block blocks l (outline_of (words_of l))) (λ b. body c (blocks ++ b ∷ []) terminals ls))

-- the header line, and then the lines behind it
abbrev pub header_due : List Line → (List Line → Answer) → Answer
header_due [] next = Err (NoHeader 0)
header_due (l ∷ ls) next = cond (is_some (header_of (words_of l))) (next ls) (Err (NoHeader l.number))

-- the count of a count line, and then the lines behind it
abbrev pub count_found : Option ℕ → Line → List Line → (ℕ → List Line → Answer) → Answer
count_found None l ls next = Err (WrongForm l.number)
count_found (Some n) l ls next = next n ls

-- the count line with this label, and then the lines behind it
abbrev pub count_due : Word → List Line → (ℕ → List Line → Answer) → Answer
count_due label [] next = Err WrongCount
count_due label (l ∷ ls) next = count_found (count_of label (words_of l)) l ls next

-- the header, three count lines and the body
abbrev pub said_by : List Line → Answer
said_by lines =
    header_due lines
    (λ lines. count_due (codes "NumSoftRectangularBlocks") lines
    (λ soft lines. count_due (codes "NumHardRectilinearBlocks") lines
    (λ hard lines. count_due (codes "NumTerminals") lines
    (λ terminals lines. body (record { soft = soft; hard = hard; terminals = terminals }) [] 0 lines))))

-- what a text says
abbrev pub said : List ℕ → Answer
said text = cond (nat_lt 65536 (length text)) (Err TextTooLong) (said_by (used_from 1 0 text))

-- the blocks, if there is room for so many
abbrev pub in_room : ℕ → Answer → Answer
in_room room (Ok blocks) = cond (nat_lt room (length blocks)) (Err MemoryTooShort) (Ok blocks)
in_room room (Err e) = Err e

-- the record of a block
abbrev pub entry_of : Block → Entry
entry_of b = record { start = b.start; len = length b.name; size = b.size }

-- what the reader answers: the number of blocks, or the refusal
abbrev pub answer_of : Answer → Result ℕ Refusal
answer_of (Ok blocks) = Ok (length blocks)
answer_of (Err e) = Err e

-- the caller's records behind the call: those of the blocks, and then those that were there
abbrev pub records_after : Answer → List Entry → List Entry
records_after (Ok blocks) records = map entry_of blocks ++ drop (length blocks) records
records_after (Err e) records = records
