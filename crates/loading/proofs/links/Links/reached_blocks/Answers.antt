use Rattle.std.proofs.Common.{length, refl, ap, ◌∙◌, arith}
use Rattle.std.proofs.lemmas.List.{length-set}
use Rattle.rules.specs.Links.{left_of}
use Rattle.loading.specs.Walks.{added}
use Rattle.loading.proofs.Spelling.{spelling, turning}
use Rattle.loading.proofs.Walking.{restacked, walk_start, walk_end}
use Rattle.loading.proofs.links.Links.reached_blocks.Goals as goal

pub loop-block-init : goal.loop-block-init
loop-block-init c = (
  restacked (c.push_block.ensures.held ∙ ap (added c.args.self.now.root) c.over-stack.ensures.held) (walk_start c.args.self.now.children.now c.args.self.now.few (spelling c.args.self.now c.requires.once)),
  omega (arith, c.push_block.ensures.room, c.over-stack.ensures.room, c.requires.room),
  refl,
)

pub push_block-requires-in-Some : goal.push_block-requires-in-Some
push_block-requires-in-Some c = λ some.
    let t = turning c.args.self.now c.requires.once c.loop-block.invariant.2 c.loop-block.invariant.0 c.in-Some.ensures.popped.0 in
    omega (arith, t.room, c.in-Some.ensures.popped.1, c.loop-block.invariant.1)

pub push_block-requires-in-Some-2 : goal.push_block-requires-in-Some-2
push_block-requires-in-Some-2 c = λ some.
    let t = turning c.args.self.now c.requires.once c.loop-block.invariant.2 c.loop-block.invariant.0 c.in-Some.ensures.popped.0 in
    omega (arith, t.room_beside some, ap length c.push_block-in-Some.ensures.held, c.push_block-in-Some.ensures.room, c.in-Some.ensures.popped.1, c.loop-block.invariant.1)

pub loop-block-smaller : goal.loop-block-smaller
loop-block-smaller c =
    let t = turning c.args.self.now c.requires.once c.loop-block.invariant.2 c.loop-block.invariant.0 c.in-Some.ensures.popped.0 in
    omega (arith, t.fewer, t.more)

pub loop-block-preserved : goal.loop-block-preserved
loop-block-preserved c =
    let e = c.in-Some.block in
    let t = turning c.args.self.now c.requires.once c.loop-block.invariant.2 c.loop-block.invariant.0 c.in-Some.ensures.popped.0 in
    let stacked = c.push_block-in-Some-2.ensures.held ∙ ap (added (left_of c.args.self.now.children.now e)) c.push_block-in-Some.ensures.held in (
      restacked stacked t.again,
      omega (arith, c.push_block-in-Some-2.ensures.room, c.push_block-in-Some.ensures.room, c.in-Some.ensures.popped.1, c.loop-block.invariant.1),
      length-set _ _ _ ∙ c.loop-block.invariant.2,
    )

pub returns : goal.returns
returns c = walk_end c.args.self.now.children.now c.args.self.now.few c.loop-block.invariant.0 c.in_default.ensures.popped.0
