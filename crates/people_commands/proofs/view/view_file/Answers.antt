use Rattle.std.proofs.Common.{[], inl, inr, refl}
use Rattle.net_core.proofs.Library.{err_from_is_err_and}
use Rattle.plan_view.specs.Terms.{problem_case}
use Rattle.input_files.specs.Inputs.{report_limit}
use Rattle.people_files.{specs.Messages.FailsAtFetch, proofs.Causing.{cause_map, halt_map}}
use Rattle.people_views.specs.Terms.{EndsReport}
use Rattle.people_commands.{specs.Endings.ViewsFile, proofs.Viewing.view_read}
use Rattle.people_commands.proofs.view.view_file.Goals as goal

pub returns-in_err-bytes-clause-ends : goal.returns-in_err-bytes-clause-ends
returns-in_err-bytes-clause-ends g c =
    let p = err_from_is_err_and c.from_residual.result c.from_residual.ensures.1 in
    let files = g.S.Shelf.files c.args.shelf.now in
    let problem = c.args.problem.now in
    rw (p.1, p.2) (halt_map (FailsAtFetch files report_limit c.args.name.now)
    (λ s m. ViewsFile files c.args.form c.args.network.now c.args.name.now (problem_case problem) problem.net.notes s [] m) c.in_err-bytes.field-0.0
    (λ s m fails. inl (refl, fails)) c.in_err-bytes.ensures.ends)

pub returns-clause-ends : goal.returns-clause-ends
returns-clause-ends g c =
    let files = g.S.Shelf.files c.args.shelf.now in
    let problem = c.args.problem.now in
    let bytes = c.in_ok-bytes.bytes in
    cause_map (EndsReport c.args.form c.args.network.now c.args.name.now (problem_case problem) problem.net.notes bytes)
    (ViewsFile files c.args.form c.args.network.now c.args.name.now (problem_case problem) problem.net.notes) c.view_report.result
    (λ s t m ends. inr (bytes, c.in_ok-bytes.ensures.found, ends)) (rw c.items.ensures at c.view_report.ensures)

pub returns-clause-shelf : goal.returns-clause-shelf
returns-clause-shelf g c =
    let problem = c.args.problem.now in
    let shelf = c.in_ok-bytes.ensures.shelf in
    record {
      same = shelf.same;
      later = shelf.later;
      counted = λ failed. absurd (view_read c.args.form c.args.network.now c.args.name.now (problem_case problem) problem.net.notes
          c.in_ok-bytes.bytes c.view_report.result (rw c.items.ensures at c.view_report.ensures) failed);
    }
