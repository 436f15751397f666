-- plans whose modules are exchanged for cheaper ones
use Rattle.std.specs.Prelude.{◌≡◌, ◌≤◌}
use Rattle.plan_terms.specs.Terms.{Case}
use Rattle.plan_types.specs.declared.plan.Plan.{Plan}
use Rattle.trim_plan.specs.Trimmed.{IsRoutedPlan}

-- the given plan with other counts, cost and routings: its routings carry the demands in each state, and it costs no more
pub record IsCheaperPlan (p : Case) (given plan : Plan) : Type 0 where
  pub same : plan ≡ record given { counts = plan.counts; cost = plan.cost; routings = plan.routings }
  pub routed : IsRoutedPlan p plan
  pub cheaper : plan.cost ≤ given.cost
