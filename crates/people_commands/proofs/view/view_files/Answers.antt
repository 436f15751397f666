use Rattle.std.proofs.Common.{[], inl, inr, refl}
use Rattle.net_core.proofs.Library.{err_from_is_err_and}
use Rattle.plan_view.specs.Terms.{problem_case}
use Rattle.people_files.{specs.CaseInputs.{FailsAtInputs, named_case}, proofs.Causing.{cause_map, halt_map}}
use Rattle.people_words.specs.AskedCommands.{asked_form}
use Rattle.people_commands.specs.Endings.{EndsView, ViewsAsked}
use Rattle.people_commands.proofs.view.view_files.Goals as goal

pub returns-in_err-problem-clause-ends : goal.returns-in_err-problem-clause-ends
returns-in_err-problem-clause-ends g c =
    let p = err_from_is_err_and c.from_residual.result c.from_residual.ensures.1 in
    let files = g.S.Shelf.files c.args.shelf.now in
    let w = named_case c.args.words.now.case in
    rw (p.1, p.2) (halt_map (FailsAtInputs files w) (λ s m. EndsView files w c.args.words.now.report.now (asked_form c.args.words.now.form) s [] m)
    c.in_err-problem.field-0.0
    (λ s m fails. inl (refl, fails)) c.in_err-problem.ensures.ends)

pub returns-clause-ends : goal.returns-clause-ends
returns-clause-ends g c =
    let files = g.S.Shelf.files c.args.shelf.now in
    let words = c.args.words.now in
    let w = named_case words.case in
    let form = asked_form words.form in
    let problem = c.in_ok-problem.problem in
    cause_map (ViewsAsked files form w.files.network words.report.now (problem_case problem) problem.net.notes)
    (EndsView files w words.report.now form) c.view_asked.result
    (λ s t m ends. inr (problem.net, problem.demands, problem.states.listed, c.in_ok-problem.ensures.has, ends))
    (rw c.in_ok-problem.ensures.shelf.same at c.view_asked.ensures.ends)
