use Rattle.std.proofs.Common.{◌≡◌, [], length, ap, ◌∙◌, arith}
use Rattle.stack.specs.Stacked.{held}
use Rattle.plan.specs.Meaning.{rows, root_of}
use Rattle.packer.specs.Walks.{put, ahead_of}
use Rattle.packer.proofs.Standing.{stands}
use Rattle.packer.proofs.Turns.{carried, start, room_for_root, underway}
use Rattle.packer.proofs.walking.Walk.new.Goals as goal

pub push_present-requires : goal.push_present-requires
push_present-requires c = λ some.
    omega (arith, room_for_root (stands c.args.plan.now) (omega (arith, c.root.ensures)), ap length c.over-stack.ensures.held, c.over-stack.ensures.room, c.requires)

pub invariant_of-result : goal.invariant_of-result
invariant_of-result c =
    let stacked : held c.push_present.new.stack ≡ put (root_of c.args.plan.now) 0 [] = cc in
    record { underway = carried c.blocks-2.ensures stacked (c.push_present.ensures.room ∙ c.over-stack.ensures.room) (underway (stands c.args.plan.now) c.requires) }

pub returns : goal.returns
returns c =
    let stacked : held c.push_present.new.stack ≡ put (root_of c.args.plan.now) 0 [] = cc in
    ap (λ bs. ahead_of bs (held c.push_present.new.stack)) c.blocks-2.ensures ∙ ap (ahead_of (rows c.args.plan.now)) stacked ∙ start (stands c.args.plan.now)
