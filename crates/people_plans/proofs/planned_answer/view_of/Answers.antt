use Rattle.std.proofs.Common.{◌≡◌, ◌∙◌, ℕ, List, ◌++◌, ap, subst, sym}
use Rattle.view_text.specs.Terms.{IsReportView}
use Rattle.plan_view.specs.Terms.{problem_case}
use Rattle.people_plans.proofs.planned_answer.view_of.Goals as goal

pub returns : goal.returns
returns c =
    let adds = c.in_ok-put_view.ensures in
    let same : c.put_view.new.text ≡ adds.0 = adds.2 ∙ ap (λ (old : List ℕ). old ++ adds.0) c.new-text.ensures in
    subst (IsReportView c.args.network.now (problem_case c.args.problem.now) c.args.outcomes.now c.args.cost) (sym same) adds.1
