-- plans with cheaper counts
use Rattle.std.proofs.Common.{◌≡◌, ◌≤◌, refl, ℕ, Some, slice_get}
use Rattle.plan_terms.specs.Terms.{Case, Routing, capacities}
use Rattle.plan_types.specs.declared.plan.Plan.{Plan}
use Rattle.trim_plan.{specs.Terms.IsRoutingOf, specs.Trimmed.IsRoutedPlan, proofs.Plans.{plan_routings, routed_with}}
use Rattle.plan_swaps.{specs.declared.kept.Kept.Kept, specs.Swaps.IsCheaperPlan, specs.inner.Searching.AreCarryingCounts}

-- each routing of counts is one of its state
pub routing_of_kept : (p : Case) (k : Kept) → AreCarryingCounts p k → (s : ℕ) (r : Routing) → slice_get k.routings s ≡ Some r → IsRoutingOf p s r
routing_of_kept p k are s r at = record { nums = capacities p.links k.counts; within = are.routings.each s r at }

module _ (p : Case) (plan : Plan) (same : plan.demands ≡ p.demands) (is : IsRoutedPlan p plan) where
  -- a plan's counts carry the demands
  pub plan_carries : AreCarryingCounts p (record { counts = plan.counts; cost = plan.cost; routings = plan.routings })
  plan_carries = record { shape = is.form.counts; limits = is.form.limits; routings = plan_routings p plan same is; paid = is.costed }

  -- the plan with cheaper counts
  pub cheaper_with : (k : Kept) → AreCarryingCounts p k → k.cost ≤ plan.cost → IsCheaperPlan p plan (record plan { counts = k.counts; cost = k.cost; routings = k.routings })
  cheaper_with k are cheaper = record {
    same = refl;
    routed = routed_with p plan k.counts k.cost k.routings same is are.shape are.limits are.routings are.paid cheaper;
    cheaper = cheaper;
  }
