-- routings within fewer and within more modules
use Rattle.std.{proofs.Common.{◌∙◌, ℕ, ◌*◌, ◌≤◌, ⊎_elim, List, slice_index, arith, mul-le-mul_left}, specs.List.AllZip}
use Rattle.plan_terms.specs.Terms.{Routing, Case, capacities}
use Rattle.able_counts.{specs.declared.able_test.AbleTest.AbleTest, specs.AbleTests.{AreKeptOrWithin, AreRoutedCounts, AreRoutingsWithin, IsRoutingWithin, IsTestOf}}
use Rattle.trim_plan.{specs.Trimmed.AreAtMost, proofs.AtMost.{capacities_at_most, limits_at_most, number_at_most, shape_at_most}}

-- what is within capacities is within greater ones
routing_more : (p : Case) (s : ℕ) (nums more : List ℕ) (r : Routing) → AllZip ◌≤◌ nums more → IsRoutingWithin p s nums r → IsRoutingWithin p s more r
routing_more p s nums more r le is = record {
  carries = record {
    den = is.carries.den;
    flows = is.carries.flows;
    met = is.carries.met;
    within = λ e.
        let here = is.carries.within e in
        let times : r.den * slice_index nums e ≤ r.den * slice_index more e = mul-le-mul_left r.den (number_at_most nums more le e) in
        grind (arith, here, times);
  };
  form = is.form;
  lowest = is.lowest;
}

-- routings that are kept or within smaller capacities are within these
pub routings_kept_within : (p : Case) (nums more : List ℕ) (old new : List Routing) → AllZip ◌≤◌ nums more → AreRoutingsWithin p more old → AreKeptOrWithin p nums old new → AreRoutingsWithin p more new
routings_kept_within p nums more old new le are kept = record {
  states = kept.same ∙ are.states;
  each = λ s r at. ⊎_elim (λ was. are.each s r was) (λ within. routing_more p s nums more r le within) (kept.each s r at);
}

-- after a module couldn't be taken off
pub routed_still : (p : Case) (counts lower : List (List ℕ)) (old new : AbleTest) → AreAtMost lower counts → AreRoutedCounts p counts old → IsTestOf p new → AreKeptOrWithin p (capacities p.links lower) old.routings new.routings → AreRoutedCounts p counts new
routed_still p counts lower old new le was test kept = record {
  shape = was.shape;
  limits = was.limits;
  test = test;
  routings = routings_kept_within p (capacities p.links lower) (capacities p.links counts) old.routings new.routings (capacities_at_most p.links lower counts le) was.routings kept;
}

-- after it could
pub routed_lower : (p : Case) (counts lower : List (List ℕ)) (old new : AbleTest) → AreAtMost lower counts → AreRoutedCounts p counts old → IsTestOf p new → AreRoutingsWithin p (capacities p.links lower) new.routings → AreRoutedCounts p lower new
routed_lower p counts lower old new le was test routings = record {
  shape = shape_at_most p.links lower counts le was.shape;
  limits = limits_at_most p.links lower counts le was.limits;
  test = test;
  routings = routings;
}
