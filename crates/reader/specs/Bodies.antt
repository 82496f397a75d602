-- A text, part by part.
use Rattle.std.specs.Prelude.{◌≡◌, ℕ, ◌+◌, ◌≤◌, List, [], ◌∷◌, Ok, Err, Result}
use Rattle.rules.specs.declared.refusals.Refusal.{Refusal}
use Rattle.grammar.specs.Lines.{Line}
use Rattle.reader.specs.declared.counts.Counts.{Counts}
use Rattle.reader.specs.declared.blocks.Blocks.{Blocks}
use Rattle.reader.specs.Text.{Block, counted, body, said_by}
use Rattle.reader.specs.Found.{blocks_of}

-- the lines in front of the body have been read, or one is refused
abbrev pub CountsRead : List Line → List Line → Result Counts Refusal → Type 0
CountsRead before after (Ok c) = said_by before ≡ body c [] 0 after
CountsRead before after (Err e) = said_by before ≡ Err e

-- one more line has been read behind these blocks and so many terminals, or is refused
abbrev pub LineRead : Line → List Block → ℕ → Result ℕ Refusal → List Block → Type 0
LineRead l before t (Ok u) after = (u ≤ t + 1) × ((c : Counts) (ls : List Line) → body c before t (l ∷ ls) ≡ body c after u ls)
LineRead l before t (Err e) after = (c : Counts) (ls : List Line) → body c before t (l ∷ ls) ≡ Err e

-- all lines of the body have been read behind these blocks, or one is refused
abbrev pub BodyRead : List Line → List Block → Result ℕ Refusal → List Block → Type 0
BodyRead ls before (Ok t) after = (c : Counts) → body c before 0 ls ≡ counted c after t
BodyRead ls before (Err e) after = (c : Counts) → body c before 0 ls ≡ Err e

-- all lines of a text have been read, or one is refused
abbrev pub TextRead : List Line → Result Blocks Refusal → Type 0
TextRead ls (Ok bs) = said_by ls ≡ Ok (blocks_of bs)
TextRead ls (Err e) = said_by ls ≡ Err e
