use Rattle.std.proofs.Common.{codes, sym, ◌∙◌, rules}
use Rattle.words.specs.Words.{words}
use Rattle.script.specs.Grammar.{list_line}
use Rattle.script.proofs.Named.{is_named}
use Rattle.script.proofs.read.list_line.Goals as goal

pub returns-in-letter : goal.returns-in-letter
returns-in-letter c =
    search rules ∙
    sym (is_named (λ n. list_line n (words c.args.args.now)) c.args.name.now (codes "letter") (search rules) (search rules))
