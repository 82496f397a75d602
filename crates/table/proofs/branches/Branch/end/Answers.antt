use Rattle.std.proofs.Common.{◌≡◌, None, refl, ap, ◌∙◌, rules}
use Rattle.std.specs.List.{last_or}
use Rattle.std.specs.Option.{unwrap_or}
use Rattle.table.specs.Walks.{ahead}
use Rattle.table.proofs.Walking.{drained, last_end}
use Rattle.table.proofs.branches.Branch.end.Goals as goal

pub returns : goal.returns
returns c =
    let is = ahead c.args.self in
    let xs = c.last.ensures.ran.0 in
    let e : c.unwrap_or.result ≡ unwrap_or (last_or None xs) 65535 = search rules in
    e ∙ ap (λ ks. unwrap_or (last_or None ks) 65535) (drained c.args.self is xs refl c.last.ensures.ran.1) ∙ last_end is
