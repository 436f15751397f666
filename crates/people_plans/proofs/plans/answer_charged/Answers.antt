use Rattle.std.{proofs.Common.{inl, inr, subst}, proofs.lemmas.Result.IfOk-weaker}
use Rattle.proof_report.specs.ProvedReports.{IsLinedEnding}
use Rattle.plan_view.specs.Terms.{problem_case}
use Rattle.people_plans.proofs.plans.answer_charged.Goals as goal

pub planned_answer-requires : goal.planned_answer-requires
planned_answer-requires g c =
    subst (IsLinedEnding (problem_case c.args.problem.now) c.args.problem.now.net.notes c.args.limit) c.in-Proved.is c.in_ok-ending.ensures

pub separated_answer-requires : goal.separated_answer-requires
separated_answer-requires g c =
    subst (IsLinedEnding (problem_case c.args.problem.now) c.args.problem.now.net.notes c.args.limit) c.in-Separated.is c.in_ok-ending.ensures

pub returns-in-Proved : goal.returns-in-Proved
returns-in-Proved g c = IfOk-weaker c.planned_answer.result _ _ (λ a is. inr (c.requires.charged, inl is)) c.planned_answer.ensures

pub returns-in-Separated : goal.returns-in-Separated
returns-in-Separated g c = IfOk-weaker c.separated_answer.result _ _ (λ a is. inr (c.requires.charged, inr is)) c.separated_answer.ensures
