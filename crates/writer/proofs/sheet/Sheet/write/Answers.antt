use Rattle.std.proofs.Common.{rules}
use Rattle.std.specs.Iterator.Adapters.{zip_first, zip_second}
use Rattle.std.specs.Slice.Iter.{iter_rest}
use Rattle.std.proofs.lemmas.List.{take_all}
use Rattle.std.proofs.lemmas.Iterator.{empty_from_Zip}
use Rattle.writer.proofs.Progress.{begun, line_has_room, one_more, ended}
use Rattle.writer.proofs.sheet.Sheet.write.Goals as goal

pub loop-entry-init : goal.loop-entry-init
loop-entry-init c =
    begun c.args.pen.now c.bytes.new.self c.args.self.text.now c.args.self.entries.now _ c.args.self.places.now _
    (record { lengths = c.requires.lengths; named = c.requires.named }) c.bytes.ensures.loan c.bytes.ensures.added (search (rules, take_all)) (search rules)

pub write_line-requires-clause-room : goal.write_line-requires-clause-room
write_line-requires-clause-room c =
    line_has_room _ _ _ _ _ (iter_rest (zip_first c.next.new.self)) _ (iter_rest (zip_second c.next.new.self)) c.in-Some.entry.now c.in-Some.place.now
    c.loop-entry.invariant (search rules) (search rules) c.requires.room

pub loop-entry-preserved : goal.loop-entry-preserved
loop-entry-preserved c =
    one_more _ _ _ _ _ (iter_rest (zip_first c.next.new.self)) _ (iter_rest (zip_second c.next.new.self)) c.in-Some.entry.now c.in-Some.place.now
    c.loop-entry.invariant (search rules) (search rules) _ c.write_line.ensures.loan c.write_line.ensures.added

pub returns-clause-added : goal.returns-clause-added
returns-clause-added c =
    ended _ _ _ _ _ _ c.loop-entry.invariant
    (empty_from_Zip c.loop-entry.entry-iterator c.next.new.self c.next.result c.in-None.is c.next.ensures.steps c.loop-entry.invariant.to_come.lengths).0
