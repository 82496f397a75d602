use Rattle.std.proofs.Common.{length}
use Rattle.std.specs.Iterator.Adapters.{zip_first, zip_second}
use Rattle.std.specs.Slice.Iter.{iter_rest}
use Rattle.writer.specs.Texts.{pl_text}
use Rattle.writer.proofs.Progress.{Left}
use Rattle.writer.proofs.sheet.Sheet.room_left.Given as goal

abbrev pub invariant-loop-entry : goal.invariant-loop-entry
invariant-loop-entry l =
    Left l.self.text.now l.room l.left (length (pl_text l.self.text.now l.self.entries.now l.self.places.now))
    (iter_rest (zip_first l.entry-iterator)) (iter_rest (zip_second l.entry-iterator))
