use Rattle.std.proofs.Common.{◌≡◌, ◌<◌, Bool, true, false, cond, eqb, ℕ, not, length, take, ◌∙◌, ap, rules, arith}
use Rattle.std.proofs.lemmas.Iterator.{YieldsList-from_slice}
use Rattle.std.proofs.lemmas.Iterator.Search.{position_from_yields_List}
use Rattle.std.proofs.lemmas.List.{get_or-take, length-take-le}
use Rattle.rules.specs.Loads.{first, unreached}
use Rattle.loading.proofs.Firsts.{first_place}
use Rattle.loading.proofs.links.Links.first_unreached.Goals as goal

unmarked : (b : Bool) (m : ℕ) → cond b 1 0 ≡ m → not b ≡ eqb m 0
unmarked true m e = ap (λ (x : ℕ). eqb x 0) e
unmarked false m e = ap (λ (x : ℕ). eqb x 0) e

pub returns : goal.returns
returns c =
    let l = c.args.self.now in
    let n = length l.children.now in
    let marks = take n c.reached_blocks-reached.result in
    let long : length {A = Bool} marks ≡ n = length-take-le n c.reached_blocks-reached.result (omega (arith, l.few)) in
    position_from_yields_List not _ _ _ c.position.ensures.ran (YieldsList-from_slice marks cc) (λ x b q k. search rules)
    ∙ first_place (unreached l.children.now l.root) not false marks (λ k h.
    let within : k < n = omega (arith, long) in
    ap not (get_or-take n c.reached_blocks-reached.result k false within) ∙ unmarked _ _ (c.reached_blocks-reached.ensures k))
    ∙ ap (first (unreached l.children.now l.root) 0) long
