use Rattle.std.proofs.Common.{◌≡◌, ℕ, ◌+◌, ◌<◌, cond, eqb, get_or}
use Rattle.rules.specs.Links.{left_of, right_of, leading}
use Rattle.loading.proofs.links.Links.namings.Given as goal

-- the namings by the root and by the pairs so far
abbrev pub invariant-loop-pair : goal.invariant-loop-pair
invariant-loop-pair l =
    (k : ℕ) → k < 512
    → get_or l.counts k 0 ≡ (leading (left_of l.self.children.now) l.pair-index k + leading (right_of l.self.children.now) l.pair-index k) + cond (eqb l.self.root k) 1 0
