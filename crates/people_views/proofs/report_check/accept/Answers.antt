use Rattle.std.proofs.Common.{◌≡◌, refl}
use Rattle.outside_io.specs.declared.status.Status.TheVariants.{Rejected}
use Rattle.plan_view.specs.Terms.{problem_case}
use Rattle.people_files.proofs.Causing.{told_so}
use Rattle.people_views.{specs.ReportEnds.{SaysFinding, TellsFinding}, proofs.Findings.unclean}
use Rattle.people_views.proofs.report_check.accept.Goals as goal

pub returns-in-Accepted-clause-accepted : goal.returns-in-Accepted-clause-accepted
returns-in-Accepted-clause-accepted c = record {
  form = c.requires;
  clean = rw c.in-Accepted.is at c.check_report.ensures.told;
  outcomes = c.check_report.ensures.sound c.in-Accepted.is;
  bounded = c.check_report.ensures.bound c.in-Accepted.is;
}

pub finding_message-requires-clause-unclean : goal.finding_message-requires-clause-unclean
finding_message-requires-clause-unclean c =
    let problem = c.args.problem.now in
    unclean problem.net.notes (problem_case problem) c.args.report.now c.in-Rejected.outcome c.in-Rejected.finding (rw c.in-Rejected.is at c.check_report.ensures.told)

pub returns-in-Rejected-clause-rejected : goal.returns-in-Rejected-clause-rejected
returns-in-Rejected-clause-rejected c =
    let problem = c.args.problem.now in
    let p = problem_case problem in
    let report = c.args.report.now in
    let name = c.args.name.now in
    let finding = c.in-Rejected.finding in
    told_so Rejected (SaysFinding name p problem.net.notes report finding) (λ s message. (s ≡ Rejected) × TellsFinding name p problem.net.notes report message)
    c.finding_message.result c.told.result c.finding_message.ensures c.told.ensures
    (λ m says. (refl, (c.in-Rejected.outcome, finding, rw c.in-Rejected.is at c.check_report.ensures.told, says)))
