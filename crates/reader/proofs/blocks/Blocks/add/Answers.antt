use Rattle.std.proofs.Common.{rules}
use Rattle.grammar.specs.Forms.{size_of}
use Rattle.reader.specs.Left.{line_at}
use Rattle.reader.proofs.Finding.{name_within, known_in, repeated, no_room, added}
use Rattle.reader.proofs.blocks.Blocks.add.Goals as goal

pub of-requires : goal.of-requires
of-requires c = name_within _ _ _ c.requires

pub returns-then-is_known : goal.returns-then-is_known
returns-then-is_known c =
    repeated c.args.self.now (line_at c.args.line) c.args.outline.name.now c.in_ok-size.size (size_of c.args.outline.corners) (search rules) (search rules)
    (known_in _ c.args.self.now c.as_slice.result.now _ c.as_slice.ensures.held (search rules))

pub returns-then-is_err : goal.returns-then-is_err
returns-then-is_err c =
    no_room c.args.self.now (line_at c.args.line) c.args.outline.name.now c.in_ok-size.size (size_of c.args.outline.corners) (search rules) (search rules)
    (known_in _ c.args.self.now c.as_slice.result.now _ c.as_slice.ensures.held (search rules)) (search rules)

pub returns : goal.returns
returns c =
    added c.args.self.now (line_at c.args.line) c.args.outline.name.now c.in_ok-size.size (size_of c.args.outline.corners) (search rules) (search rules)
    (known_in _ c.args.self.now c.as_slice.result.now _ c.as_slice.ensures.held (search rules)) c.push.new.self c.of.result (search rules) (search rules) (search rules)
