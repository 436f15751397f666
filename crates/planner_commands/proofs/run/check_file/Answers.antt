use Rattle.std.proofs.Common.{inl, inr}
use Rattle.net_core.proofs.Library.{err_from_is_err_and}
use Rattle.plan_terms.specs.Terms.{case}
use Rattle.plan_report.specs.Terms.{known_of}
use Rattle.input_files.{specs.Inputs.{RefusesReportFile, StopsAtFile, report_limit}, proofs.Stopping.stop_map}
use Rattle.outside_io.specs.declared.status.Status.TheVariants.{BadReport}
use Rattle.planner_commands.specs.Run.{EndsCheck}
use Rattle.planner_commands.proofs.run.check_file.Goals as goal

pub returns-in_err-report-clause-ends : goal.returns-in_err-report-clause-ends
returns-in_err-report-clause-ends g c =
    let p = err_from_is_err_and c.from_residual.result c.from_residual.ensures.1 in
    let files = g.S.Shelf.files c.args.shelf.now in
    let name = c.args.name.now in
    let problem = c.args.problem.now in
    rw (p.1, p.2) (stop_map (StopsAtFile files report_limit name BadReport (RefusesReportFile (known_of problem.net problem.states)))
    (EndsCheck files name (case problem.net problem.states problem.demands) problem.net.notes) c.in_err-report.field-0.0 (λ status text e. inl e) c.in_err-report.ensures.ends)

pub returns-clause-ends : goal.returns-clause-ends
returns-clause-ends g c = inr (c.in_ok-report.report, c.in_ok-report.ensures.has, c.in_ok-answer_check.ensures)
