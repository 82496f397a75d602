use Rattle.std.proofs.Common.{◌≡◌, Ok, None, sym, ap, ◌∙◌, arith}
use Rattle.std.proofs.lemmas.List.{get_or_read}
use Rattle.rules.specs.Refusals.{answered}
use Rattle.rules.specs.Edits.{absent_refusal}
use Rattle.table.specs.Tables.{blank}
use Rattle.loading.proofs.Refusing.{answered_ok}
use Rattle.plan.specs.Meaning.{meant, rows}
use Rattle.plan.specs.Reports.{report_of}
use Rattle.plan.proofs.Changes.{within}
use Rattle.plan.proofs.Telling.{report_is}
use Rattle.plan.proofs.plans.Plan.report.Goals as goal

pub index-b-requires : goal.index-b-requires
index-b-requires c =
    let pass : absent_refusal (meant c.args.self.now.table) c.args.i ≡ None = answered_ok _ _ (sym c.test_present.ensures ∙ c.in_ok-test_present.was) in
    omega (arith, within c.args.self.now c.args.i pass)

pub returns : goal.returns
returns c =
    let p = c.args.self.now in
    let pass : absent_refusal (meant p.table) c.args.i ≡ None = answered_ok _ _ (sym c.test_present.ensures ∙ c.in_ok-test_present.was) in
    let b = c.index-b.result.now in
    let is = get_or_read (rows p) c.args.i b (within p c.args.i pass) c.index-b.ensures blank in
    ap Ok (report_is p c.args.i b _ pass is c.is_letter_kept.ensures.tree) ∙ ap (λ o. answered o (report_of (meant p.table) c.args.i)) (sym pass)
