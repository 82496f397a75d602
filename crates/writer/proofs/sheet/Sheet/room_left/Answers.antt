use Rattle.std.proofs.Common.{rules}
use Rattle.writer.proofs.Progress.{left_begun}
use Rattle.writer.proofs.sheet.Sheet.room_left.Goals as goal

pub loop-entry-init : goal.loop-entry-init
loop-entry-init c =
    left_begun c.args.self.text.now c.args.room c.in_ok-left.left c.args.self.entries.now _ c.args.self.places.now _
    (record { lengths = c.requires.lengths; named = c.requires.named }) (search rules) (search rules) (search rules)
