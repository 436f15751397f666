-- that a plan carries the demands follows from what is known to hold without a witness
use Rattle.net_core.proofs.Library.{∥∥₁_elim, ∥∥₁_map, props}
use Rattle.plan_terms.specs.Terms.{Case, graph_in, capacities}
use Rattle.plan_types.{specs.Terms.IsCarryingPlan, specs.declared.plan.Plan.Plan}
use Rattle.acceptance.proofs.Lemmas.{carries_certain}

pub carrying_certain : (p : Case) (plan : Plan) → ∥ IsCarryingPlan p plan ∥₁ → IsCarryingPlan p plan
carrying_certain p plan told = record {
  states = ∥∥₁_elim told (hlevel props) (λ (is : IsCarryingPlan p plan). is.states);
  each = λ s r at. carries_certain (graph_in p s) p.demands 1 (capacities p.links plan.counts) r (∥∥₁_map told (λ (is : IsCarryingPlan p plan). is.each s r at));
}
