use Rattle.std.proofs.Common.{◌≡◌, ◌++◌, map, length, take}
use Rattle.grammar.specs.Words.{words}
use Rattle.grammar.proofs.first_words.first_words.Given as goal

-- the words found, and behind them those of what is left
abbrev pub invariant-loop-count : goal.invariant-loop-count
invariant-loop-count l = (length l.place-items ≡ 24) × (map (λ w. w.now) (take l.count l.place-items) ++ words l.rest ≡ words l.line)
