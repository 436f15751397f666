use Rattle.std.proofs.Common.{◌≡◌, Err, Result, codes, subst}
use Rattle.text_kit.{specs.Terms.{AnswersAs, Fails}, specs.declared.refusal.Refusal.Refusal}
use Rattle.plan_report.specs.Terms.{SpellsReport, known_of, Report}
use Rattle.report_words.{specs.Terms.report_kind_word, specs.declared.fault.ReportKind.ReportKind}
use Rattle.report_reader.specs.ReadingReport.{report_of}
use Rattle.outside_io.specs.declared.status.Status.TheVariants.{BadReport}
use Rattle.fault_messages.specs.Terms.{AreReportNotes, report_message}
use Rattle.people_files.proofs.Showing.{fault_shown, notes_at}
use Rattle.plan_view.specs.Terms.{problem_case}
use Rattle.people_views.proofs.spelled_report.spelled_report.Goals as goal

-- reading a report ends with a refusal
abbrev refused : Refusal ReportKind → Result Report (Refusal ReportKind)
refused refusal = Err refusal

pub returns-in_ok-notes-in-Err-Bad-clause-refused : goal.returns-in_ok-notes-in-Err-Bad-clause-refused
returns-in_ok-notes-in-Err-Bad-clause-refused c =
    let p = problem_case c.args.problem.now in
    let names = known_of c.args.problem.now.net c.args.problem.now.states in
    let bytes = c.args.bytes.now in
    let at = c.in-Err-Bad.at in
    let kind = c.in-Err-Bad.kind in
    fault_shown (SpellsReport names) (report_of names) (codes "report") report_kind_word (report_message names.places) (AreReportNotes p) BadReport
    c.args.name.now bytes at kind c.report_sentence-sentence.result.wrong.now c.report_sentence-sentence.result.help.now c.items.result.now c.refused.result
    (λ r spelled. subst (λ (q : Refusal ReportKind). AnswersAs (λ (x : Report). x) (refused q) r) c.in-Err-Bad.field-0-is (c.in-Err-Bad.ensures.only r spelled))
    (subst (λ (q : Refusal ReportKind). Fails q (report_of names bytes)) c.in-Err-Bad.field-0-is c.in-Err-Bad.ensures.exact)
    (rw c.places.ensures at c.report_sentence-sentence.ensures)
    (notes_at (AreReportNotes p) bytes at c.place_in.result kind c.in_ok-notes-in-Err-Bad.notes c.items.result.now c.place_in.ensures.value c.items.ensures c.in_ok-notes-in-Err-Bad.ensures)
    c.refused.ensures
