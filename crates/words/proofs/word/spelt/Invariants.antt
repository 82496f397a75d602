use Rattle.std.proofs.Common.{◌≡◌, ◌^◌, ◌<◌, drop}
use Rattle.words.specs.Numbers.{spelt_after}
use Rattle.words.proofs.word.spelt.Given as goal

-- the digits that are left, behind those of n, spell what the word spells
abbrev pub invariant-loop-b : goal.invariant-loop-b
invariant-loop-b l = (spelt_after 0 l.word ≡ spelt_after l.n (drop l.b-index l.word)) × (l.n < 10 ^ l.b-index)
