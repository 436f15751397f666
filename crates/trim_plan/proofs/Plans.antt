-- plans with other counts
use Rattle.std.proofs.Common.{◌≡◌, ℕ, ◌≤◌, List, get_or, refl, sym, subst, arith}
use Rattle.net_core.proofs.Library.{slice_get-get_or, all_at}
use Rattle.plan_terms.specs.Terms.{Demand, Routing, Case, AreCounts, AreWithinLimits, capacities, total_cost}
use Rattle.plan_report.specs.Terms.{IsRoutingInForm, Plan}
use Rattle.route_law.specs.Terms.{IsLowestRouting}
use Rattle.able_counts.{specs.AbleTests.{AreRoutedCounts, AreRoutingsWithin}, specs.declared.able_test.AbleTest.AbleTest}
use Rattle.trim_plan.{specs.Trimmed.{AreAtMost, IsRoutedPlan, IsTrimmedBy, IsTrimming}, specs.declared.trimmed_plan.Block.Block, proofs.AtMost.total_at_most}

-- the routings of a plan are within the capacities of its counts
pub plan_routings : (p : Case) (plan : Plan) → plan.demands ≡ p.demands → IsRoutedPlan p plan → AreRoutingsWithin p (capacities p.links plan.counts) plan.routings
plan_routings p plan same is = record {
  states = is.carrying.states;
  each = λ s r at. record {
    carries = is.carrying.each s r at;
    form = subst (λ (ds : List Demand). IsRoutingInForm p.links ds r) same (all_at (IsRoutingInForm p.links plan.demands) plan.routings s r is.form.routings.each at);
    lowest = all_at IsLowestRouting plan.routings s r is.lowest at;
  };
}

-- a plan with other counts that carry its demands, and that cost no more
pub routed_with : (p : Case) (plan : Plan) (counts : List (List ℕ)) (cost : ℕ) (routings : List Routing) → plan.demands ≡ p.demands → IsRoutedPlan p plan
    → AreCounts p.links counts → AreWithinLimits p.links counts → AreRoutingsWithin p (capacities p.links counts) routings → cost ≡ total_cost p.links counts → cost ≤ plan.cost
    → IsRoutedPlan p (record plan { counts = counts; cost = cost; routings = routings })
routed_with p plan counts cost routings same is shape limits within paid cheaper =
    let form = is.form in
    record {
      carrying = record { states = within.states; each = λ s r at. (within.each s r at).carries };
      costed = paid;
      form = record {
        version = form.version;
        position = form.position;
        demands = form.demands;
        counts = shape;
        limits = limits;
        cost = let low = form.cost in omega (arith, low, cheaper);
        routings = record {
          long = within.states;
          each = λ k d lt. subst (λ (ds : List Demand). IsRoutingInForm p.links ds (get_or routings k d)) (sym same) (within.each k (get_or routings k d) (slice_get-get_or routings k d lt)).form;
        };
        certificate = form.certificate;
        raw_num = form.raw_num;
        raw_positive = form.raw_positive;
        raw_den = form.raw_den;
        bound = form.bound;
        quality = form.quality;
      };
      lowest = λ k d lt. (within.each k (get_or routings k d) (slice_get-get_or routings k d lt)).lowest;
    }

-- a plan with trimmed counts
pub trimming_of : (p : Case) (plan : Plan) (t : AbleTest) (counts : List (List ℕ)) (cost : ℕ) (blocks : List Block) → plan.demands ≡ p.demands → IsRoutedPlan p plan
    → AreRoutedCounts p counts t → AreAtMost counts plan.counts → cost ≡ total_cost p.links counts → IsTrimmedBy p counts blocks
    → IsTrimming p plan (record { plan = record plan { counts = counts; cost = cost; routings = t.routings }; blocks = blocks })
trimming_of p plan t counts cost blocks same is are fewer paid trimmed =
    let le = total_at_most p.links counts plan.counts fewer in
    let costed : plan.cost ≡ total_cost p.links plan.counts = is.costed in
    let cheaper : cost ≤ plan.cost = omega (arith, le, paid, costed) in
    record {
      same = refl;
      routed = routed_with p plan counts cost t.routings same is are.shape are.limits are.routings paid cheaper;
      fewer = fewer;
      cheaper = cheaper;
      trimmed = trimmed;
    }
