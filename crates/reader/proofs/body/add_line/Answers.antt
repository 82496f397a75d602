use Rattle.std.proofs.Common.{Some, refl, ap, ◌∙◌, subst, arith}
use Rattle.grammar.specs.Words.{words}
use Rattle.grammar.specs.Relations.{Says}
use Rattle.reader.specs.Text.{body}
use Rattle.reader.specs.Left.{line_at}
use Rattle.reader.specs.Found.{blocks_of}
use Rattle.reader.proofs.Gathering.{with_outline}
use Rattle.reader.proofs.body.add_line.Goals as goal

pub returns-in_ok-add-in-Some-Block : goal.returns-in_ok-add-in-Some-Block
returns-in_ok-add-in-Some-Block c =
    let said = subst (Says (words c.args.line.bytes.now)) (c.in-Some-Block.is ∙ ap Some c.in-Some-Block.field-0-is) c.item_of.ensures in (
      omega arith,
      λ counts ls.
          with_outline counts (blocks_of c.args.blocks.now) c.args.terminals (line_at c.args.line) ls said.0 _ _ _ said.1 refl ∙
          c.in_ok-add-in-Some-Block.ensures (λ bs. body counts bs c.args.terminals ls),
    )
