-- What an entry marks in a text.
use Rattle.std.specs.Prelude.{ℕ, ◌+◌, cond, ◌&&◌, List, length, take, drop, Some, None, Option, nat_le}
use Rattle.names.specs.declared.entries.Entry.{Entry}
use Rattle.names.specs.Names.{is_name}

-- the bytes of the text from the entry's start on, as many as it says
abbrev pub marked : List ℕ → Entry → List ℕ
marked text e = take e.len (drop e.start text)

-- the bytes that the entry marks, if they lie in the text and are a name
abbrev pub name_of : List ℕ → Entry → Option (List ℕ)
name_of text e = cond (nat_le (e.start + e.len) (length text) && is_name (marked text e)) (Some (marked text e)) None
