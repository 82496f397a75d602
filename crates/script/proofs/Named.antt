-- A word whose bytes are those of a name.
use Rattle.std.proofs.Common.{◌≡◌, ℕ, List, length, ap}
use Rattle.std.proofs.lemmas.Slice.Eq.{HasBytesAt, text_from_reads}

pub is_named : {A : Type 0} (f : List ℕ → A) (w p : List ℕ) → length w ≡ length p → HasBytesAt w 0 p → f w ≡ f p
is_named f w p long same = ap f (text_from_reads w p long same)
