use Rattle.std.proofs.Common.{◌≡◌, ◌∷◌, length, refl, ap, ◌∙◌, sym, arith, rules}
use Rattle.stack.specs.Stacked.{held}
use Rattle.table.specs.Tables.{at}
use Rattle.packer.specs.Walks.{after, ahead_of}
use Rattle.packer.proofs.Turns.{turn, carried, taken_off, met}
use Rattle.packer.proofs.walking.ops.WalkIterator.next.Goals as goal

pub invariant_of-self : goal.invariant_of-self
invariant_of-self c = record { underway = taken_off _ _ c.pop.result c.pop.ensures.popped c.args.self.now.underway }

pub push_present-requires : goal.push_present-requires
push_present-requires c = λ _. omega (arith, (turn c.in_ok-spot.ensures.popped.0 c.args.self.now.underway).room_first, c.in_ok-spot.ensures.popped.1)

pub overflow_add-spot : goal.overflow_add-spot
overflow_add-spot c =
    let t = turn c.in_ok-spot.ensures.popped.0 c.args.self.now.underway in
    let edge = t.near.edge in
    search rules

pub push_present-requires-2 : goal.push_present-requires-2
push_present-requires-2 c = λ _. omega (arith, ap length c.push_present.ensures.held, (turn c.in_ok-spot.ensures.popped.0 c.args.self.now.underway).room_second, c.in_ok-spot.ensures.popped.1, c.push_present.ensures.room)

pub invariant_of-self-2 : goal.invariant_of-self-2
invariant_of-self-2 c =
    let e = c.in_ok-spot.spot in
    let t = turn c.in_ok-spot.ensures.popped.0 c.args.self.now.underway in
    let stacked : held c.push_present-2.new.stack ≡ after (at c.args.self.now.blocks.now e.block) e.left (held c.pop.new.self) = cc in
    record { underway = carried refl stacked (c.push_present-2.ensures.room ∙ c.push_present.ensures.room ∙ c.in_ok-spot.ensures.popped.1) t.again }

pub returns : goal.returns
returns c =
    let e = c.in_ok-spot.spot in
    let t = turn c.in_ok-spot.ensures.popped.0 c.args.self.now.underway in
    let stacked : held c.push_present-2.new.stack ≡ after (at c.args.self.now.blocks.now e.block) e.left (held c.pop.new.self) = cc in
    let comes = ap (ahead_of _) c.in_ok-spot.ensures.popped.0 ∙ t.comes ∙ ap (λ es. met c.args.self.now.blocks.now e ∷ ahead_of c.args.self.now.blocks.now es) (sym stacked) in
    record { steps = comes; goes = record { on = λ _. (tt, tt, omega (arith, ap length comes)); keeps = tt; rests = λ _. tt } }
