use Rattle.std.proofs.Common.{codes, sym, ◌∙◌, rules}
use Rattle.words.specs.Words.{words}
use Rattle.script.specs.Grammar.{skyline_line}
use Rattle.script.proofs.Named.{is_named}
use Rattle.script.proofs.skies.skyline_line.Goals as goal

pub returns-in-skyline : goal.returns-in-skyline
returns-in-skyline c =
    search rules ∙
    sym (is_named (λ n. skyline_line n (words c.args.args.now)) c.args.name.now (codes "skyline") (search rules) (search rules))

pub returns-in-highest : goal.returns-in-highest
returns-in-highest c =
    search rules ∙
    sym (is_named (λ n. skyline_line n (words c.args.args.now)) c.args.name.now (codes "highest") (search rules) (search rules))
