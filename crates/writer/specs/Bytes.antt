-- What a writer leaves in the caller's bytes.
use Rattle.std.specs.Prelude.{◌≡◌, ℕ, ◌+◌, List, ◌++◌, length, take, drop}
use Rattle.std.specs.Borrow.{GName}
use Rattle.writer.specs.declared.pen.Pen.{Pen}

-- the text stands at the front, and what is behind it is as it was
abbrev pub Wrote : List ℕ → List ℕ → List ℕ → Type 0
Wrote before after text = after ≡ text ++ drop (length text) before

-- the bytes that a pen has written
unfoldable pub written : Pen → List ℕ
written p = take p.at p.out.now

-- the bytes ahead of it
unfoldable pub ahead : Pen → List ℕ
ahead p = drop p.at p.out.now

-- which loan its bytes are: two with one name are the same bytes of the caller's
abbrev pub loan : Pen → GName
loan p = p.out.ghost_name

-- the text has been written straight behind what was written before, over as many bytes of those ahead
pub record Added (p : Pen) (text : List ℕ) (q : Pen) : Type 0 where
  pub behind : written q ≡ written p ++ text
  pub before : ahead q ≡ drop (length text) (ahead p)
  pub room : length (ahead p) ≡ length text + length (ahead q)
