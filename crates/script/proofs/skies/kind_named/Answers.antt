use Rattle.std.proofs.Common.{codes, sym, ◌∙◌, rules}
use Rattle.words.specs.Words.{words}
use Rattle.script.specs.Grammar.{kind_named}
use Rattle.script.proofs.Named.{is_named}
use Rattle.script.proofs.skies.kind_named.Goals as goal

pub returns-in-columns : goal.returns-in-columns
returns-in-columns c =
    search rules ∙
    sym (is_named (λ n. kind_named n (words c.args.args.now)) c.args.name.now (codes "columns") (search rules) (search rules))

pub returns-in-placed : goal.returns-in-placed
returns-in-placed c =
    search rules ∙
    sym (is_named (λ n. kind_named n (words c.args.args.now)) c.args.name.now (codes "placed") (search rules) (search rules))
