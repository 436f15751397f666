use Rattle.std.proofs.Common.{◌≡◌}
use Rattle.plan_terms.specs.Terms.{case}
use Rattle.plan_report.specs.Terms.{known_to, SpellsReport, report_text, Report}
use Rattle.plan_reports.proofs.Lemmas.{transcript_accepted}
use Rattle.outside_io.specs.declared.answer.Answer.{Answer}
use Rattle.command_answers.{specs.Answers.IsPrintedReport, proofs.Clauses.both_ok}
use Rattle.command_answers.proofs.session.answer_session.Goals as goal

pub returns-clause-report : goal.returns-clause-report
returns-clause-report g c =
    let problem = c.args.problem in
    let p = case problem.net problem.states problem.demands in
    let notes = problem.net.notes in
    let commands = c.args.script.now.commands in
    let report = c.in_ok-report.report in
    let accepted = transcript_accepted p notes commands report c.requires.few c.in_ok-report.ensures in
    both_ok c.reported.result (λ (a : Answer). a.text ≡ report_text (known_to p) report) (λ (a : Answer). SpellsReport (known_to p) a.text report)
    (λ (a : Answer). (r : Report) × IsPrintedReport p notes commands r a.text × SpellsReport (known_to p) a.text r)
    (λ a text spelled. (report, record { transcript = c.in_ok-report.ensures; clean = accepted.0; bounded = accepted.1; printed = text }, spelled))
    c.reported.ensures.text c.reported.ensures.spelled
