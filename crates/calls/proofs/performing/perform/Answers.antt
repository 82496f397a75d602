use Rattle.std.proofs.Common.{map, length, take, subst}
use Rattle.rules.specs.Book.{new_book}
use Rattle.calls.specs.Said.{said}
use Rattle.calls.specs.Desks.{DeskBy}
use Rattle.calls.specs.Runs.{memory, Performed}
use Rattle.calls.proofs.Running.{take_whole, told_more, performed_more}
use Rattle.calls.proofs.performing.perform.Goals as goal

pub loop-call-preserved : goal.loop-call-preserved
loop-call-preserved g c =
    let calls = c.args.calls.now in
    let i = c.loop-call.call-index in
    let n = length c.args.walk.now in
    let k = length c.loop-call.walk in
    let cs = map (said n) (take i calls) in
    let did = c.step-desk.ensures in
    let first = memory c.args.skyline.now c.args.walk.now c.args.spots.now c.args.places.now in
    let before = memory c.loop-call.skyline c.loop-call.walk c.loop-call.spots c.loop-call.places in
    let after = memory c.step-desk.new.skyline c.step-desk.new.walk c.step-desk.new.spots c.step-desk.new.places in (
      told_more calls i _ c.loop-call-test.true n k c.loop-call.auto.walk c.loop-call.desk c.step-desk.result c.requires did.told c.loop-call.invariant.0,
      performed_more calls i _ c.loop-call-test.true n k c.loop-call.auto.walk g.S.Skyline.meaning first before after (did.leaves cs c.loop-call.invariant.0) c.loop-call.invariant.1,
    )

pub returns : goal.returns
returns g c =
    let say = said (length c.args.walk.now) in
    let whole = take_whole say c.args.calls.now c.loop-call.call-index c.loop-call-test.false in
    record {
      told = subst (λ cs. DeskBy cs c.loop-call.desk) whole c.loop-call.invariant.0;
      performed = subst (λ cs. Performed g.S.Skyline.meaning new_book cs (memory c.args.skyline.now c.args.walk.now c.args.spots.now c.args.places.now) (memory c.loop-call.skyline c.loop-call.walk c.loop-call.spots c.loop-call.places)) whole c.loop-call.invariant.1;
    }
