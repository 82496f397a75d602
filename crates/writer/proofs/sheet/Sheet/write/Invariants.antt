use Rattle.std.specs.Iterator.Adapters.{zip_first, zip_second}
use Rattle.std.specs.Slice.Iter.{iter_rest}
use Rattle.writer.specs.Texts.{pl_text}
use Rattle.writer.proofs.Progress.{Coming}
use Rattle.writer.proofs.sheet.Sheet.write.Given as goal

abbrev pub invariant-loop-entry : goal.invariant-loop-entry
invariant-loop-entry l =
    Coming l.fn.pen l.pen l.self.text.now (pl_text l.self.text.now l.self.entries.now l.self.places.now)
    (iter_rest (zip_first l.entry-iterator)) (iter_rest (zip_second l.entry-iterator))
