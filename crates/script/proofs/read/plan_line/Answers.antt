use Rattle.std.proofs.Common.{codes, sym, ◌∙◌, rules}
use Rattle.words.specs.Words.{words}
use Rattle.script.specs.Grammar.{plan_line}
use Rattle.script.proofs.Named.{is_named}
use Rattle.script.proofs.read.plan_line.Goals as goal

pub returns-in-report : goal.returns-in-report
returns-in-report c =
    search rules ∙
    sym (is_named (λ n. plan_line n (words c.args.args.now)) c.args.name.now (codes "report") (search rules) (search rules))
