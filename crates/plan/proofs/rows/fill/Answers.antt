use Rattle.std.proofs.Common.{◌<◌, length, ap, ◌∙◌, arith, rules}
use Rattle.std.specs.List.{zip}
use Rattle.std.specs.Iterator.Adapters.{zip_first, zip_second}
use Rattle.std.proofs.lemmas.Iterator.{YieldsList-from_slice, YieldsList-from_zip}
use Rattle.std.proofs.lemmas.Iterator.Consumers.{YieldsList-turn, YieldsList-end}
use Rattle.std.proofs.lemmas.Slice.Zip.{length-zip}
use Rattle.std.proofs.lemmas.List.{length-map}
use Rattle.plan.proofs.Loading.{rows_of}
use Rattle.plan.proofs.rows.fill.Goals as goal

pub invariant_of-table-in-loop-size : goal.invariant_of-table-in-loop-size
invariant_of-table-in-loop-size c =
    let l = c.args.lists in
    let s = c.into_iter-size-iterator.result in
    let pairs = YieldsList-from_zip {s = zip_first s} (YieldsList-from_slice {s = zip_first (zip_first s)} l.sizes.now cc) (YieldsList-from_slice {s = zip_second (zip_first s)} l.letters.now cc) in
    let road = YieldsList-from_zip {s = s} pairs (YieldsList-from_slice {s = zip_second s} l.children.now cc) in
    let turn = YieldsList-turn road c.loop-size.yielded _ c.loop-size.yielded_by _ c.next.new.self _ c.in-Some.is c.next.ensures.steps in
    let long = ap length c.loop-size.invariant ∙ length-map c.loop-size.yielded _ in
    let short : length c.loop-size.yielded < 512 = omega (arith, turn.0, length-zip (zip l.sizes.now l.letters.now) l.children.now, length-zip l.sizes.now l.letters.now, c.requires.few) in
    search rules

pub returns-clause-items : goal.returns-clause-items
returns-clause-items c =
    let l = c.args.lists in
    let s = c.into_iter-size-iterator.result in
    let pairs = YieldsList-from_zip {s = zip_first s} (YieldsList-from_slice {s = zip_first (zip_first s)} l.sizes.now cc) (YieldsList-from_slice {s = zip_second (zip_first s)} l.letters.now cc) in
    let road = YieldsList-from_zip {s = s} pairs (YieldsList-from_slice {s = zip_second s} l.children.now cc) in
    let end = YieldsList-end road c.loop-size.yielded _ c.loop-size.yielded_by _ c.next.new.self c.in-None.is c.next.ensures.steps in
    c.loop-size.invariant ∙ rows_of c.loop-size.yielded _ end.0
