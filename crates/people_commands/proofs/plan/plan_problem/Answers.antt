use Rattle.plan_view.specs.Terms.{problem_case}
use Rattle.people_plans.specs.PlansForPeople.{EndsPlanForPeople}
use Rattle.people_commands.{proofs.Causing.{answer_has, answer_reads}, proofs.Planning.{no_text, nothing_read}}
use Rattle.people_commands.proofs.plan.plan_problem.Goals as goal

pub returns-clause-ends : goal.returns-clause-ends
returns-clause-ends g c =
    let words = c.args.words.now in
    let p = problem_case c.args.problem.now in
    let notes = c.args.problem.now.net.notes in
    let network = words.case.files.network.now in
    let a = c.in_ok-answer.answer in
    let ends = rw (c.as_bytes.ensures.value, c.splits_of.ensures.same) at c.in_ok-answer.ensures in
    answer_has (EndsPlanForPeople network words.splits words.report p notes) a c.printed.result c.printed.ensures ends
    (no_text network words.splits words.report p notes a.status a.text a.message ends)

pub returns-clause-read : goal.returns-clause-read
returns-clause-read g c =
    let words = c.args.words.now in
    let p = problem_case c.args.problem.now in
    let notes = c.args.problem.now.net.notes in
    let network = words.case.files.network.now in
    let a = c.in_ok-answer.answer in
    let ends = rw (c.as_bytes.ensures.value, c.splits_of.ensures.same) at c.in_ok-answer.ensures in
    λ fails. nothing_read network words.splits words.report p notes a.status a.text a.message ends (answer_reads a c.printed.result c.printed.ensures fails)
