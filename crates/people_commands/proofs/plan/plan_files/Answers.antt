use Rattle.std.proofs.Common.{[], inl, inr, refl}
use Rattle.net_core.proofs.Library.{err_from_is_err_and}
use Rattle.plan_view.specs.Terms.{problem_case}
use Rattle.people_files.{specs.CaseInputs.FailsAtInputs, proofs.Causing.halt_map}
use Rattle.people_plans.specs.PlansForPeople.{EndsPlanForPeople}
use Rattle.people_words.specs.AskedCommands.{asked_plan}
use Rattle.people_commands.{specs.Endings.EndsPeoplePlan, proofs.Causing.printed_map}
use Rattle.people_commands.proofs.plan.plan_files.Goals as goal

pub returns-in_err-problem-clause-ends : goal.returns-in_err-problem-clause-ends
returns-in_err-problem-clause-ends g c =
    let p = err_from_is_err_and c.from_residual.result c.from_residual.ensures.1 in
    let files = g.S.Shelf.files c.args.shelf.now in
    let asked = asked_plan c.args.words.now in
    rw (p.1, p.2) (halt_map (FailsAtInputs files asked.case) (λ s m. EndsPeoplePlan files asked s [] m) c.in_err-problem.field-0.0
    (λ s m fails. inl (refl, fails)) c.in_err-problem.ensures.ends)

pub returns-clause-ends : goal.returns-clause-ends
returns-clause-ends g c =
    let files = g.S.Shelf.files c.args.shelf.now in
    let asked = asked_plan c.args.words.now in
    let problem = c.in_ok-problem.problem in
    printed_map (EndsPlanForPeople asked.case.files.network asked.splits asked.report (problem_case problem) problem.net.notes)
    (EndsPeoplePlan files asked) c.plan_problem.result
    (λ s t m ends. inr (problem.net, problem.demands, problem.states.listed, c.in_ok-problem.ensures.has, ends)) c.plan_problem.ensures.ends

pub returns-clause-shelf : goal.returns-clause-shelf
returns-clause-shelf g c =
    let shelf = c.in_ok-problem.ensures.shelf in
    record { same = shelf.same; later = shelf.later; counted = λ failed. absurd (c.plan_problem.ensures.read failed) }
