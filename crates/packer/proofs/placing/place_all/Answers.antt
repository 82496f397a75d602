use Rattle.std.proofs.Common.{◌+◌, ◌≤◌, length, sym, refl, ap, ◌∙◌, arith, rules}
use Rattle.rules.specs.Packing.{packed}
use Rattle.plan.specs.Meaning.{rows, root_of}
use Rattle.plan.specs.Sound.{plan_of}
use Rattle.packer.specs.Places.{recorded}
use Rattle.packer.specs.Ahead.{ahead}
use Rattle.packer.proofs.Present.{rows_are}
use Rattle.packer.proofs.Standing.{stands}
use Rattle.packer.proofs.Records.{recorded_none}
use Rattle.packer.proofs.Filling.{fill_start, fill_end, fill_turn, known, within, some_left, flat}
use Rattle.packer.proofs.placing.place_all.Goals as goal

pub blank_records-requires : goal.blank_records-requires
blank_records-requires g c = omega (arith, rows_are c.args.plan.now, ap length c.blocks-2.ensures, c.requires.records_long)

pub loop-visit-init : goal.loop-visit-init
loop-visit-init g c =
    fill_start (stands c.args.plan.now) (ap ahead c.into_iter-visit-iterator.ensures.into_iter_gives ∙ c.new-visit-items.ensures) c.clear.ensures
    (recorded_none c.args.places.now (ap length c.blocks-2.ensures) c.blank_records.ensures)

pub place_block-place-requires : goal.place_block-place-requires
place_block-place-requires g c =
    let plan = stands c.args.plan.now in
    let f = c.loop-visit.invariant in
    let is = c.in-Some.ensures.steps in
    record { span = within plan f is c.requires; some = some_left plan f is c.requires; low = flat plan f is c.requires }

pub bounds-places-visit : goal.bounds-places-visit
bounds-places-visit g c = known (stands c.args.plan.now) c.loop-visit.invariant c.in-Some.ensures.steps c.requires

pub overflow_add-place : goal.overflow_add-place
overflow_add-place g c =
    let r = c.place_block-place.ensures in
    let top = flat (stands c.args.plan.now) c.loop-visit.invariant c.in-Some.ensures.steps c.requires c.place_block-place.result.y r.rests in
    let under : c.place_block-place.result.y + c.place_block-place.result.height ≤ 134217728 = omega (arith, top, r.high) in
    search rules

pub loop-visit-preserved : goal.loop-visit-preserved
loop-visit-preserved g c =
    fill_turn (stands c.args.plan.now) c.loop-visit.invariant c.in-Some.ensures.steps c.requires c.place_block-place.ensures refl (omega (arith, c.max-height.ensures))

pub returns : goal.returns
returns g c =
    let done = fill_end (stands c.args.plan.now) c.loop-visit.invariant c.in-None.ensures.steps.0 in
    record {
      height = done.0;
      places = done.1 ∙ ap (λ n. recorded (packed (plan_of (rows c.args.plan.now) (root_of c.args.plan.now))) n c.args.places.now) (sym (rows_are c.args.plan.now));
      skyline = done.2;
    }
