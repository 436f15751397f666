use Rattle.std.proofs.Common.{◌≡◌, [], inl, inr, refl}
use Rattle.net_core.proofs.Library.{err_from_is_err_and}
use Rattle.outside_io.specs.declared.status.Status.TheVariants.{Rejected}
use Rattle.plan_view.specs.Terms.{problem_case}
use Rattle.people_files.proofs.Causing.{cause_map, halt_map}
use Rattle.people_views.specs.ReportEnds.{TellsFinding, ViewsAccepted, ViewsReport}
use Rattle.people_views.proofs.views.checked_view.Goals as goal

pub returns : goal.returns
returns c =
    let problem = c.args.problem.now in
    cause_map (ViewsAccepted c.args.form c.args.network.now c.args.name.now (problem_case problem) c.args.report.now c.args.bytes.now)
    (ViewsReport c.args.form c.args.network.now c.args.name.now (problem_case problem) problem.net.notes c.args.report.now c.args.bytes.now)
    c.accepted_view.result (λ s text message ends. inr (c.in_ok-accept.ensures.accepted, ends)) c.accepted_view.ensures

pub returns-in_err-accept : goal.returns-in_err-accept
returns-in_err-accept c =
    let e = err_from_is_err_and c.from_residual.result c.from_residual.ensures.1 in
    let problem = c.args.problem.now in
    let p = problem_case problem in
    let r = c.args.report.now in
    rw (e.1, e.2) (halt_map (λ s message. (s ≡ Rejected) × TellsFinding c.args.name.now p problem.net.notes r message)
    (λ s message. ViewsReport c.args.form c.args.network.now c.args.name.now p problem.net.notes r c.args.bytes.now s [] message) c.in_err-accept.field-0.0
    (λ s message tells. inl (tells.0, refl, tells.1)) c.in_err-accept.ensures.rejected)
