use Rattle.std.proofs.Common.{◌++◌, ◌∙◌, List, ℕ, ap, map, subst, sym}
use Rattle.plan_terms.specs.Terms.{case_of}
use Rattle.plan_report.specs.Terms.{IsReportInForm, SpellsReport, known_to, report_text, Report}
use Rattle.report_comments.{specs.Comments.AddsLines, proofs.Spelling.reports_take_comments}
use Rattle.plan_reports.{specs.BlockLines.{block_items, block_lines}, proofs.Blocks.blocks_told}
use Rattle.plan_reports.proofs.writer.write_trimmed.Goals as goal

pub write_report-requires : goal.write_report-requires
write_report-requires c = subst (IsReportInForm (known_to (case_of c.args.instance.now))) (sym c.in_ok-whole.ensures) c.requires.acceptable.form

pub put_lines-requires : goal.put_lines-requires
put_lines-requires c = blocks_told (case_of c.args.instance.now) c.args.report.plan.counts c.args.blocks.now c.requires.trimmed

pub returns-clause-text : goal.returns-clause-text
returns-clause-text c =
    let p = case_of c.args.instance.now in
    c.in_ok-put_lines.ensures.text ∙ ap (λ (t : List ℕ). t ++ block_lines p.links p.demands c.args.blocks.now) (c.in_ok-text.ensures.text ∙ ap (report_text (known_to p)) c.in_ok-whole.ensures)

pub returns-clause-spelled : goal.returns-clause-spelled
returns-clause-spelled c =
    let p = case_of c.args.instance.now in
    let known = known_to p in
    let text = c.in_ok-text.ensures.text in
    let spelled = subst (λ (t : List ℕ). SpellsReport known t c.in_ok-whole.whole) text c.in_ok-text.ensures.spelled in
    let adds = subst (λ (t : List ℕ). AddsLines t (map (block_items p.links p.demands) c.args.blocks.now) c.put_lines.new.text) text c.in_ok-put_lines.ensures in
    subst (λ (x : Report). SpellsReport known c.put_lines.new.text x) c.in_ok-whole.ensures (reports_take_comments known c.in_ok-whole.whole (map (block_items p.links p.demands) c.args.blocks.now) c.put_lines.new.text adds spelled)
