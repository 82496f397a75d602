-- Names.
use Rattle.std.specs.Prelude.{ℕ, Bool, ◌&&◌, ◌||◌, List, length, ◌==◌, nat_le}
use Rattle.std.specs.List.{list_all}
use Rattle.std.specs.Char.{is_ascii_alphanumeric}

-- an ASCII letter, a digit or an underscore
abbrev pub is_name_byte : ℕ → Bool
is_name_byte b = is_ascii_alphanumeric b || b == 95

-- every byte is one of these
abbrev pub all_name_bytes : List ℕ → Bool
all_name_bytes bs = list_all is_name_byte bs

-- a name has 1 to 32 bytes, all of them letters, digits or underscores
abbrev pub is_name : List ℕ → Bool
is_name bs = nat_le 1 (length bs) && (nat_le (length bs) 32 && all_name_bytes bs)
