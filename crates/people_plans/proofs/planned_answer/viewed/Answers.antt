use Rattle.std.proofs.Common.{◌∙◌, List, IfOk, arith, subst}
use Rattle.plan_types.specs.declared.report.Outcome.{Outcome}
use Rattle.view_text.{specs.Terms.IsReportView, specs.declared.proof.CostProof.CostProof}
use Rattle.plan_view.specs.Terms.{problem_case}
use Rattle.people_plans.{specs.PlansForPeople.told_of_proof, proofs.Sound.{holds_shown, sound_shown}}
use Rattle.people_plans.proofs.planned_answer.viewed.Goals as goal

pub told-cost-requires : goal.told-cost-requires
told-cost-requires c = let few = c.requires.proved.few in omega (arith, few)

pub view_of-requires-clause-sound : goal.view_of-requires-clause-sound
view_of-requires-clause-sound c =
    let problem = c.args.problem.now in
    sound_shown (problem_case problem) problem.net.notes c.args.limit c.args.report.now c.requires
    c.items.result.now (c.items.ensures ∙ c.in_ok-outcomes.ensures) problem.belong

pub view_of-requires-clause-holds : goal.view_of-requires-clause-holds
view_of-requires-clause-holds c =
    let problem = c.args.problem.now in
    holds_shown (problem_case problem) problem.net.notes c.args.limit c.args.report.now c.requires
    c.items.result.now c.told-cost.result (c.items.ensures ∙ c.in_ok-outcomes.ensures) c.told-cost.ensures

pub returns : goal.returns
returns c =
    let p = problem_case c.args.problem.now in
    let told = told_of_proof c.args.report.now.proof in
    subst (λ (os : List Outcome). IfOk c.view_of.result (IsReportView c.args.network.now p os told)) (c.items.ensures ∙ c.in_ok-outcomes.ensures)
    (subst (λ (cost : CostProof). IfOk c.view_of.result (IsReportView c.args.network.now p c.items.result.now cost)) c.told-cost.ensures c.view_of.ensures)
