use Rattle.std.proofs.Common.{◌≡◌, Bool, IfOk, subst, sym}
use Rattle.outside_io.specs.declared.status.Status.TheVariants.{Done}
use Rattle.plan_view.specs.Terms.{problem_case}
use Rattle.people_plans.{specs.PlansForPeople.PrintsPlan, specs.declared.answer.PlanAnswer.PlanAnswer}
use Rattle.people_plans.proofs.planned_answer.planned_answer.Goals as goal

pub returns-then-wanted : goal.returns-then-wanted
returns-then-wanted c =
    subst (λ (w : Bool). IfOk c.reported.result (λ (a : PlanAnswer). (a.status ≡ Done)
    × PrintsPlan c.args.network.now c.args.limit w (problem_case c.args.problem.now) c.args.problem.now.net.notes a.text a.message))
    (sym c.if-wanted.true) c.reported.ensures

pub returns-else-wanted : goal.returns-else-wanted
returns-else-wanted c =
    subst (λ (w : Bool). IfOk c.shown.result (λ (a : PlanAnswer). (a.status ≡ Done)
    × PrintsPlan c.args.network.now c.args.limit w (problem_case c.args.problem.now) c.args.problem.now.net.notes a.text a.message))
    (sym c.if-wanted.false) c.shown.ensures
