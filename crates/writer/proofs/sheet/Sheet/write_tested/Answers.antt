use Rattle.std.proofs.Common.{length, sym, ap, arith, rules}
use Rattle.writer.proofs.Answering.{accepted, none_of, writes}
use Rattle.writer.proofs.sheet.Sheet.write_tested.Goals as goal

pub write-requires : goal.write-requires
write-requires c =
    let a = accepted c.args.self.text.now c.args.self.entries.now c.args.self.places.now _ (none_of _ c.in_ok-test.field-0 (sym c.in_ok-test.ensures)) in
    record { lengths = a.lengths; named = a.named; room = omega (arith, a.fits, ap length c.over-pen.ensures.ahead) }

pub returns : goal.returns
returns c =
    writes _ _ c.args.out.now _ c.len.result c.over-pen.result c.write.new.pen (none_of _ c.in_ok-test.field-0 (sym c.in_ok-test.ensures))
    c.over-pen.ensures.written c.over-pen.ensures.ahead c.write.ensures.added (search rules) c.len.ensures
