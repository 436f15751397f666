-- the rows of a plan, all together
use Rattle.std.specs.Prelude.{◌+◌, length}
use Rattle.plan_terms.specs.Terms.{Case}
use Rattle.plan_types.specs.declared.plan.Plan.{Plan}
use Rattle.plan_view.specs.Terms.{AreLinkRows, AreStateRows, IsPlanSummary}
use Rattle.view_text.specs.declared.plan.PlanNumbers.{PlanNumbers}

-- the numbers of the links, of the states and of the whole plan
pub record AreNumbers (p : Case) (plan : Plan) (numbers : PlanNumbers) : Type 0 where
  pub are_links : AreLinkRows p.links plan (length p.links) numbers.links
  pub are_states : AreStateRows p plan (length p.listed + 1) numbers.states
  pub is_whole : IsPlanSummary p plan numbers.whole
