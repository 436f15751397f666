-- the design of a plan, and cheaper ones in its place
use Rattle.std.specs.Prelude.{◌≡◌, ℕ, ◌≤◌, List, All}
use Rattle.plan_terms.specs.Terms.{Notes, Routing, Case, IsSurvivable}
use Rattle.plan_types.specs.Terms.{IsCarryingPlan, IsCostedPlan}
use Rattle.plan_report.specs.Terms.{IsPlanInForm, known_to, Plan}
use Rattle.route_law.specs.Terms.{IsLowestRouting}
use Rattle.acceptance.specs.Terms.{IsTranscript}
use Rattle.plan_reports.{specs.declared.planned_report.PlannedReport.PlannedReport, specs.LonePlans.{IsSoundDesign, plan_commands, redesigned, redesigned_plan, whole_report}}

-- the plan is for the opening demands: it carries them in each state, at the cost of its counts, in form and in lowest terms
pub record IsMadePlan (p : Case) (plan : Plan) : Type 0 where
  pub demands : plan.demands ≡ p.demands
  pub carrying : IsCarryingPlan p plan
  pub costed : IsCostedPlan p plan
  pub form : IsPlanInForm (known_to p) plan
  pub lowest : All IsLowestRouting plan.routings

-- the plan of a transcript of one plan command is for the opening demands, and no state separates one of them
abbrev pub LonePlansCarry : Type 0
LonePlansCarry = (p : Case) (notes : Notes) (r : PlannedReport)
    → IsTranscript p notes plan_commands (whole_report r)
    → IsMadePlan p r.plan × IsSurvivable p

-- the report of a plan stays a transcript if the plan's design is replaced by a sound one in lowest terms that costs no more
abbrev pub CheaperRedesignsArePlans : Type 0
CheaperRedesignsArePlans = (p : Case) (notes : Notes) (r : PlannedReport) (counts : List (List ℕ)) (cost : ℕ) (routings : List Routing)
    → IsTranscript p notes plan_commands (whole_report r)
    → IsSoundDesign p (redesigned_plan r.plan counts cost routings)
    → All IsLowestRouting routings
    → cost ≤ r.plan.cost
    → IsTranscript p notes plan_commands (whole_report (redesigned r counts cost routings))
