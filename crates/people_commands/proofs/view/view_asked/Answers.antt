use Rattle.std.proofs.Common.{[], arith, inl, inr, refl}
use Rattle.net_core.proofs.Library.{err_from_is_err_and}
use Rattle.plan_view.specs.Terms.{problem_case}
use Rattle.people_files.{specs.CaseInputs.named_case, proofs.Causing.{cause_map, halt_map}}
use Rattle.people_words.specs.AskedCommands.{asked_form}
use Rattle.people_commands.{specs.Endings.{LacksForm, ViewsAsked, ViewsFile}, proofs.Viewing.lacks_read}
use Rattle.people_commands.proofs.view.view_asked.Goals as goal

pub returns-in_err-form-clause-ends : goal.returns-in_err-form-clause-ends
returns-in_err-form-clause-ends g c =
    let p = err_from_is_err_and c.from_residual.result c.from_residual.ensures.1 in
    let files = g.S.Shelf.files c.args.shelf.now in
    let problem = c.args.problem.now in
    let words = c.args.words.now in
    rw (p.1, p.2) (halt_map (LacksForm (problem_case problem) (asked_form words.form))
    (λ s m. ViewsAsked files (asked_form words.form) (named_case words.case).files.network words.report.now (problem_case problem) problem.net.notes s [] m)
    c.in_err-form.field-0.0
    (λ s m lacks. inl (refl, lacks)) c.in_err-form.ensures)

pub returns-in_err-form-clause-shelf : goal.returns-in_err-form-clause-shelf
returns-in_err-form-clause-shelf g c =
    let p = err_from_is_err_and c.from_residual.result c.from_residual.ensures.1 in
    rw (p.1, p.2) (record {
      same = refl;
      later = omega arith;
      counted = λ failed. absurd (lacks_read (problem_case c.args.problem.now) (asked_form c.args.words.now.form) c.in_err-form.field-0.0
          c.in_err-form.ensures failed);
    })

pub returns-clause-ends : goal.returns-clause-ends
returns-clause-ends g c =
    let files = g.S.Shelf.files c.args.shelf.now in
    let problem = c.args.problem.now in
    let words = c.args.words.now in
    let network = (named_case words.case).files.network in
    let form = c.in_ok-form.form in
    cause_map (ViewsFile files form network words.report.now (problem_case problem) problem.net.notes)
    (ViewsAsked files (asked_form words.form) network words.report.now (problem_case problem) problem.net.notes) c.view_file.result
    (λ s t m ends. inr (form, c.in_ok-form.ensures.0, ends)) c.view_file.ensures.ends
