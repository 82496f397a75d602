use Rattle.std.proofs.Common.{◌≡◌, ◌-◌, ◌≤◌, length}
use Rattle.stack.specs.Stacked.{held, room}
use Rattle.loading.proofs.Walking.{Walking, marks}
use Rattle.loading.proofs.links.Links.reached_blocks.Given as goal

abbrev pub invariant-loop-block : goal.invariant-loop-block
invariant-loop-block l = Walking l.self.children.now l.self.root (held l.stack) l.reached × (length l.self.children.now ≤ room l.stack) × (length l.reached ≡ 512)

abbrev pub decreases-loop-block : goal.decreases-loop-block
decreases-loop-block l = length l.self.children.now - marks (length l.self.children.now) l.reached
