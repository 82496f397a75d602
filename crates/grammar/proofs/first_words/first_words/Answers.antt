use Rattle.std.proofs.Common.{ap, sym, ◌∙◌, map, arith, rules}
use Rattle.std.proofs.lemmas.List.{take_all}
use Rattle.grammar.proofs.Gathering.{one_more, found_full, found_all}
use Rattle.grammar.proofs.first_words.first_words.Goals as goal

pub returns-in_default : goal.returns-in_default
returns-in_default c = found_all (λ w. w.now) c.loop-count.place-items c.loop-count.count _ _ c.loop-count.invariant.1 _ 24 (search rules) (search rules) c.in_default.ensures

pub loop-count-preserved : goal.loop-count-preserved
loop-count-preserved c = (search rules, one_more (λ w. w.now) c.loop-count.place-items c.loop-count.count _ _ c.loop-count.invariant.1 _ _ (search rules) c.in-Some.ensures)

pub returns : goal.returns
returns c =
    sym (ap (map (λ w. w.now)) (take_all 24 c.loop-count.place-items (omega (arith, c.loop-count.invariant.0)))) ∙
    found_full (λ w. w.now) c.loop-count.place-items c.loop-count.count _ _ c.loop-count.invariant.1 24 (search rules) c.loop-count.invariant.0
