use Rattle.std.proofs.Common.{◌++◌, ◌∙◌, ◌≡◌, List, ℕ, ap, subst, sym}
use Rattle.plan_terms.specs.Terms.{case_of}
use Rattle.plan_report.specs.Terms.{IsReportInForm, SpellsReport, known_to, report_text, Report}
use Rattle.report_comments.{specs.Comments.AddsLines, proofs.Spelling.reports_take_comments}
use Rattle.plan_reports.specs.Terms.{whole_report}
use Rattle.tree_search.specs.Terms.{Proof}
use Rattle.tree_lines.specs.TreeLines.{IsToldProof, proof_lines}
use Rattle.proof_report.{specs.ProvedReports.{proof_text, proved_report}, proofs.Told.proof_told}
use Rattle.proof_report.proofs.writer.write_lined.Goals as goal

pub write_report-requires : goal.write_report-requires
write_report-requires c =
    let p = case_of c.args.instance.now in
    let whole : c.in_ok-whole.whole ≡ whole_report (proved_report c.args.report) = c.in_ok-whole.ensures ∙ ap whole_report c.in_ok-planned.ensures.0 in
    subst (IsReportInForm (known_to p)) (sym whole) c.requires.acceptable.form

pub put_lines-requires : goal.put_lines-requires
put_lines-requires c =
    let p = case_of c.args.instance.now in
    subst IsToldProof (sym c.in_ok-planned.ensures.1) (proof_told p c.args.report.proof c.requires.proved.accepted)

pub returns-clause-text : goal.returns-clause-text
returns-clause-text c =
    let p = case_of c.args.instance.now in
    let whole : c.in_ok-whole.whole ≡ whole_report (proved_report c.args.report) = c.in_ok-whole.ensures ∙ ap whole_report c.in_ok-planned.ensures.0 in
    c.in_ok-put_lines.ensures.text ∙ (ap (λ (t : List ℕ). t ++ proof_text p c.in_ok-planned.proof) (c.in_ok-text.ensures.text ∙ ap (report_text (known_to p)) whole)
    ∙ ap (λ (proof : Proof). report_text (known_to p) (whole_report (proved_report c.args.report)) ++ proof_text p proof) c.in_ok-planned.ensures.1)

pub returns-clause-spelled : goal.returns-clause-spelled
returns-clause-spelled c =
    let p = case_of c.args.instance.now in
    let known = known_to p in
    let whole : c.in_ok-whole.whole ≡ whole_report (proved_report c.args.report) = c.in_ok-whole.ensures ∙ ap whole_report c.in_ok-planned.ensures.0 in
    let text = c.in_ok-text.ensures.text in
    let lines = proof_lines p.links p.demands p.places c.in_ok-planned.proof in
    let spelled = subst (λ (t : List ℕ). SpellsReport known t c.in_ok-whole.whole) text c.in_ok-text.ensures.spelled in
    let adds = subst (λ (t : List ℕ). AddsLines t lines c.put_lines.new.text) text c.in_ok-put_lines.ensures in
    subst (λ (x : Report). SpellsReport known c.put_lines.new.text x) whole (reports_take_comments known c.in_ok-whole.whole lines c.put_lines.new.text adds spelled)
