use Rattle.std.proofs.Common.{rules, ◌≡◌, ◌∙◌, max}
use Rattle.std.specs.List.{fold}
use Rattle.skyline.specs.Spans.{part}
use Rattle.skyline.proofs.Tops.{top_fold}
use Rattle.skyline.proofs.spans.highest_top.Goals as goal

pub returns : goal.returns
returns g c =
    let e = g.T.Spanned.extent in
    let folded : c.fold.result ≡ fold (λ m x. max (part (e x) c.args.a c.args.b) m) 0 c.args.records.now = search rules in
    folded ∙ top_fold e c.args.records.now c.args.a c.args.b
