-- What the writers answer, and what they leave in the caller's bytes.
use Rattle.std.specs.Prelude.{◌≡◌, ℕ, ◌+◌, ◌<◌, min, Bool, not, List, ◌++◌, length, drop, is_some, Some, None, Option, Result, ◌==◌, nat_lt, slice_index_or}
use Rattle.rules.specs.declared.placements.Placement.{Placement}
use Rattle.rules.specs.declared.refusals.Refusal.{Refusal}
use Rattle.rules.specs.declared.refusals.Refusal.TheVariants.{LengthsDiffer, MemoryTooShort, TextTooLong, NoName}
use Rattle.rules.specs.Refusals.{when, answered}
use Rattle.rules.specs.Loads.{first, when_found}
use Rattle.names.specs.declared.entries.Entry.{Entry}
use Rattle.names.specs.Entries.{name_of}
use Rattle.writer.specs.Texts.{pl_text}

-- the bytes of the caller: the text at their front, or unaltered where there is a refusal
abbrev pub left_by : Option Refusal → List ℕ → List ℕ → List ℕ
left_by None text before = text ++ drop (length text) before
left_by (Some r) text before = before

-- A writer of the text, over the bytes before: it answers the refusal, if there is one, else how long the text is.
pub record Writes (refusal : Option Refusal) (text before after : List ℕ) (r : Result ℕ Refusal) : Type 0 where
  pub answer : r ≡ answered refusal (length text)
  pub bytes : after ≡ left_by refusal text before

-- 18: the text is longer than the caller's bytes
abbrev pub too_short : List ℕ → ℕ → Option Refusal
too_short text room = when (nat_lt room (length text)) MemoryTooShort None

-- the entry of block i marks no name in the text
abbrev pub unnamed : List ℕ → List Entry → ℕ → Bool
unnamed text es i = not (is_some (name_of text (slice_index_or es i (record { start = 0; len = 0; size = record { width = 0; height = 0 } }))))

-- 20, with the first block that has no name; a number over 4,294,967,295 is told as that
abbrev pub no_name : ℕ → Refusal
no_name i = NoName (min i 4294967295)

-- 19, 2, 20, 18
unfoldable pub writer_refusal : List ℕ → List Entry → List Placement → ℕ → Option Refusal
writer_refusal text es ps room =
    when (nat_lt 65536 (length text)) TextTooLong
    (when (not (length es == length ps)) LengthsDiffer
    (when_found (first (unnamed text es) 0 (length es)) no_name
    (too_short (pl_text text es ps) room)))

-- how much room is left behind the text, none where it does not fit
abbrev pub RoomLeft : List ℕ → ℕ → Option ℕ → Type 0
RoomLeft text room (Some left) = room ≡ left + length text
RoomLeft text room None = room < length text
