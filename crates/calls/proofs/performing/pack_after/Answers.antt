use Rattle.std.proofs.Common.{◌≡◌, map, length, Err, sym, refl, ap, ◌∙◌, rules}
use Rattle.calls.specs.declared.call.Stop.TheVariants.{Refused}
use Rattle.calls.specs.Said.{said}
use Rattle.calls.specs.Runs.{memory}
use Rattle.calls.proofs.Ending.{as_stop, in_turn_none, stays_in_turn, in_turn_gives, out_of_turn_gives}
use Rattle.calls.proofs.performing.pack_after.Goals as goal

pub returns-in_err-in_turn : goal.returns-in_err-in_turn
returns-in_err-in_turn g c =
    let n = length c.args.walk.now in
    out_of_turn_gives g.S.Skyline.meaning (map (said n) c.args.calls.now) (memory c.args.skyline.now c.args.walk.now c.args.spots.now c.args.places.now)
    c.in_err-in_turn.field-0.0 (c.in_err-in_turn.ensures n) (search rules)

pub perform-desk-requires : goal.perform-desk-requires
perform-desk-requires g c = let n = length c.args.walk.now in stays_in_turn (map (said n) c.args.calls.now) (c.in_ok-in_turn.ensures n)

pub returns-in_err-extent : goal.returns-in_err-extent
returns-in_err-extent g c =
    let refused : c.from_residual-in_err-extent.result ≡ Err (Refused c.in_err-extent.field-0.0) = search rules in
    let cs = map (said (length c.args.walk.now)) c.args.calls.now in
    let first = memory c.args.skyline.now c.args.walk.now c.args.spots.now c.args.places.now in
    let before = memory c.perform-desk.new.skyline c.perform-desk.new.walk c.perform-desk.new.spots c.perform-desk.new.places in
    let after = memory c.pack.new.skyline c.perform-desk.new.walk c.pack.new.spots c.pack.new.places in
    let done = c.perform-desk.ensures in
    let did = c.pack.ensures in
    in_turn_gives g.S.Skyline.meaning cs first before after (in_turn_none cs (c.in_ok-in_turn.ensures (length c.args.walk.now))) done.performed
    c.perform-desk.auto.spots c.perform-desk.auto.places c.pack.result (record { gives = did.gives cs done.told; walk = refl }) (did.promise cs done.told) (refused ∙ ap as_stop (sym c.in_err-extent.was))

pub returns : goal.returns
returns g c =
    let cs = map (said (length c.args.walk.now)) c.args.calls.now in
    let first = memory c.args.skyline.now c.args.walk.now c.args.spots.now c.args.places.now in
    let before = memory c.perform-desk.new.skyline c.perform-desk.new.walk c.perform-desk.new.spots c.perform-desk.new.places in
    let after = memory c.pack.new.skyline c.perform-desk.new.walk c.pack.new.spots c.pack.new.places in
    let done = c.perform-desk.ensures in
    let did = c.pack.ensures in
    in_turn_gives g.S.Skyline.meaning cs first before after (in_turn_none cs (c.in_ok-in_turn.ensures (length c.args.walk.now))) done.performed
    c.perform-desk.auto.spots c.perform-desk.auto.places c.pack.result (record { gives = did.gives cs done.told; walk = refl }) (did.promise cs done.told) (ap as_stop (sym c.in_ok-extent.was))
