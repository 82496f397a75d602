use Rattle.std.proofs.Common.{◌+◌, ◌≤◌, length, drop, ap, arith}
use Rattle.std.proofs.lemmas.List.{length-drop}
use Rattle.writer.specs.Bytes.{written, ahead}
use Rattle.writer.proofs.Adding.{part_added}
use Rattle.writer.proofs.pen.Pen.bytes.Goals as goal

pub returns-clause-added : goal.returns-clause-added
unfolding written ahead
returns-clause-added c =
    let p = c.args.self.now in
    let room : p.at + length c.args.bytes.now ≤ length p.out.now = omega (arith, length-drop p.at p.out.now, c.requires, p.within) in
    let a = part_added p.out.now c.put_bytes.new.out c.args.bytes.now p.at room c.put_bytes.ensures in
    record { behind = a.0; before = a.1; room = omega (arith, ap length a.1, length-drop (length c.args.bytes.now) (drop p.at p.out.now), length-drop p.at p.out.now) }
