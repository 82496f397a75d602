-- Where the first word of a line stands.
use Rattle.std.proofs.Common.{◌≡◌, ℕ, ◌+◌, ◌≤◌, List, ◌∷◌, length, take, drop}
use Rattle.words.specs.Words.{Word}
use Rattle.words.proofs.Splits.{first_word}
use Rattle.grammar.specs.Words.{blank, mark, words, indent}

-- the first word stands behind the first blanks
pub record FirstStands (bs : List ℕ) (w : Word) : Type 0 where
  pub there : take (length w) (drop (indent bs) bs) ≡ w
  pub within : indent bs + length w ≤ length bs

pub first_stands : (bs : List ℕ) (w : Word) (ws : List Word) → words bs ≡ w ∷ ws → FirstStands bs w
unfolding words indent
first_stands bs w ws e = let f = first_word blank mark bs w ws e in record { there = f.0; within = f.1 }
