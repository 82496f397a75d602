use Rattle.std.proofs.Common.{◌≡◌, ◌+◌, ◌-◌, ◌≤◌, ◌<◌, drop, sym, subst, rules, tests}
use Rattle.std.specs.Slice.Iter.{iter_rest}
use Rattle.std.proofs.lemmas.List.{take_rest}
use Rattle.std.proofs.lemmas.Iterator.{IsFirst-from_position, YieldsList-from_slice}
use Rattle.steps.specs.Order.{Holds}
use Rattle.steps.proofs.Searched.{walk_holds}
use Rattle.steps.proofs.steps.search.last_before.Goals as goal

pub returns-clause-last : goal.returns-clause-last
returns-clause-last c =
    let xs = c.args.runs.now in
    let first = c.args.first in
    let b = c.args.b in
    let rest : iter_rest c.iter.result ≡ drop first xs = search (rules, take_rest) in
    let found = IsFirst-from_position _ _ _ (λ x. b ≤ x.end) (λ x. x.end < b) c.position-walked.ensures.ran (YieldsList-from_slice (drop first xs) rest)
    (λ x q k. search (rules, tests)) (λ x q k. search (rules, tests)) in
    subst (λ k. Holds xs (first + k) (b - 1)) (sym c.unwrap_or.ensures)
    (walk_holds xs first b _ c.requires.within c.requires.starts c.requires.reach found)
