-- which plans rows are made of
use Rattle.plan_terms.specs.Terms.{Case}
use Rattle.plan_report.specs.Terms.{IsPlanInForm, known_to, Plan}
use Rattle.plan_types.specs.Terms.{IsCarryingPlan, IsCertifiedPlan, IsCostedPlan}

-- a plan in form that carries the demands of the case, whose cost is its own, and whose bound is certified: what a plan is that a check accepted
pub record IsSoundPlan (p : Case) (plan : Plan) : Type 0 where
  pub form : IsPlanInForm (known_to p) plan
  pub carrying : IsCarryingPlan p plan
  pub costed : IsCostedPlan p plan
  pub certified : IsCertifiedPlan p plan
