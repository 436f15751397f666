use Rattle.std.proofs.Common.{◌≡◌, inl}
use Rattle.plan_terms.specs.Terms.{case_of}
use Rattle.plan_report.specs.Terms.{known_to, SpellsReport, report_text}
use Rattle.flow_file.specs.declared.flow.FlowFile.{FlowFile}
use Rattle.proof_report.specs.Terms.{whole_report}
use Rattle.plan_reports.specs.ImportedPlans.{IsImportedReport}
use Rattle.outside_io.{specs.declared.answer.Answer.Answer, specs.declared.status.Status.TheVariants.Done}
use Rattle.command_answers.{specs.Answers.EndsImported, proofs.Clauses.three_ok}
use Rattle.command_answers.proofs.import.answer_imported.Goals as goal

pub planned-requires : goal.planned-requires
planned-requires c = c.requires.1.acceptable.form

pub returns : goal.returns
returns c =
    let p = case_of c.args.instance.now in
    let notes = c.args.instance.now.net.now.notes in
    let whole = whole_report c.args.report in
    three_ok c.planned.result (λ (a : Answer). a.status ≡ Done) (λ (a : Answer). a.text ≡ report_text (known_to p) whole) (λ (a : Answer). SpellsReport (known_to p) a.text whole)
    (λ (a : Answer). (file : FlowFile) → IsImportedReport p notes file whole → EndsImported p notes file a.status a.text)
    (λ a status text spelled file imported. inl (status, record { report = whole; imported = imported; printed = text; spelled = spelled }))
    c.planned.ensures.status c.planned.ensures.text c.planned.ensures.spelled
