use Rattle.std.proofs.Common.{◌≡◌, [], inl, inr, refl}
use Rattle.net_core.proofs.Library.{err_from_is_err_and}
use Rattle.outside_io.specs.declared.status.Status.TheVariants.{BadReport}
use Rattle.plan_view.specs.Terms.{problem_case}
use Rattle.people_files.proofs.Causing.{cause_map, halt_map}
use Rattle.people_views.specs.ReportEnds.{EndsReport, ShowsReportFault, ViewsReport}
use Rattle.people_views.proofs.views.view_report.Goals as goal

pub returns : goal.returns
returns c =
    let problem = c.args.problem.now in
    let r = c.in_ok-report.report in
    cause_map (ViewsReport c.args.form c.args.network.now c.args.name.now (problem_case problem) problem.net.notes r c.args.bytes.now)
    (EndsReport c.args.form c.args.network.now c.args.name.now (problem_case problem) problem.net.notes c.args.bytes.now)
    c.checked_view.result (λ s text message ends. inr (r, c.in_ok-report.ensures.spelled, ends)) c.checked_view.ensures

pub returns-in_err-report : goal.returns-in_err-report
returns-in_err-report c =
    let e = err_from_is_err_and c.from_residual.result c.from_residual.ensures.1 in
    let problem = c.args.problem.now in
    rw (e.1, e.2) (halt_map (λ s message. (s ≡ BadReport) × ShowsReportFault (problem_case problem) c.args.name.now c.args.bytes.now message)
    (λ s message. EndsReport c.args.form c.args.network.now c.args.name.now (problem_case problem) problem.net.notes c.args.bytes.now s [] message)
    c.in_err-report.field-0.0
    (λ s message shows. inl (shows.0, refl, shows.1)) c.in_err-report.ensures.refused)
