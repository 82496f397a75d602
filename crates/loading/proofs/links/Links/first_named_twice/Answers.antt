use Rattle.std.proofs.Common.{◌≡◌, ℕ, ◌<◌, ltb, length, take, ◌∙◌, ap, rules, arith}
use Rattle.std.proofs.lemmas.Iterator.{YieldsList-from_slice}
use Rattle.std.proofs.lemmas.Iterator.Search.{position_from_yields_List}
use Rattle.std.proofs.lemmas.List.{get_or-take, length-take-le}
use Rattle.rules.specs.Loads.{first, named_twice}
use Rattle.loading.proofs.Firsts.{first_place}
use Rattle.loading.proofs.links.Links.first_named_twice.Goals as goal

pub returns : goal.returns
returns c =
    let l = c.args.self.now in
    let n = length l.children.now in
    let counts = take n c.namings-counts.result in
    let long : length {A = ℕ} counts ≡ n = length-take-le n c.namings-counts.result (omega (arith, l.few)) in
    position_from_yields_List (λ k. ltb 1 k) _ _ _ c.position.ensures.ran (YieldsList-from_slice counts cc) (λ x b q k. search rules)
    ∙ first_place (named_twice l.children.now l.root) (λ k. ltb 1 k) 0 counts (λ k h.
    let within : k < n = omega (arith, long) in
    ap (ltb 1) (get_or-take n c.namings-counts.result k 0 within ∙ c.namings-counts.ensures k (omega (arith, l.few))))
    ∙ ap (first (named_twice l.children.now l.root) 0) long
