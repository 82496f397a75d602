-- The stack of a walk.
use Rattle.std.specs.Prelude.{ℕ, cond, List, ◌∷◌, ◌==◌}

-- the entries with the block of a link on top, if it leads to one
abbrev pub added : ℕ → List ℕ → List ℕ
added k es = cond (k == 65535) es (k ∷ es)
