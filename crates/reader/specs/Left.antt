-- The lines that are left of a text.
use Rattle.std.specs.Prelude.{◌≡◌, ℕ, ◌<◌, ◌≤◌, List, length, Ok, Err, Result}
use Rattle.rules.specs.declared.refusals.Refusal.{Refusal}
use Rattle.rules.specs.declared.refusals.Refusal.TheVariants.{TextTooLong}
use Rattle.words.specs.Words.{Word}
use Rattle.grammar.specs.Lines.{Line, used_from}
use Rattle.reader.specs.declared.lines.Used.{Used}
use Rattle.reader.specs.declared.lines.UsedLines.{UsedLines}
use Rattle.reader.specs.Text.{Answer, header_due, count_due}

-- a line as the code holds it
abbrev pub line_at : Used → Line
line_at l = record { number = l.number; start = l.start; bytes = l.bytes.now }

-- the lines that are used of what is left
abbrev pub lines_left : UsedLines → List Line
lines_left s = used_from s.number s.place s.rest.now

-- all lines of a text are left, or it is too long
abbrev pub LinesOf : List ℕ → Result UsedLines Refusal → Type 0
LinesOf text (Ok s) = (length text ≤ 65536) × (lines_left s ≡ used_from 1 0 text)
LinesOf text (Err e) = (65536 < length text) × (e ≡ TextTooLong)

-- the header line has been read, or is refused
abbrev pub HeaderRead : List Line → List Line → Result (Unit {0}) Refusal → Type 0
HeaderRead before after (Ok _) = (next : List Line → Answer) → header_due before next ≡ next after
HeaderRead before after (Err e) = (next : List Line → Answer) → header_due before next ≡ Err e

-- the count line with this label has been read, or is refused
abbrev pub CountRead : Word → List Line → List Line → Result ℕ Refusal → Type 0
CountRead label before after (Ok n) = (next : ℕ → List Line → Answer) → count_due label before next ≡ next n after
CountRead label before after (Err e) = (next : ℕ → List Line → Answer) → count_due label before next ≡ Err e
