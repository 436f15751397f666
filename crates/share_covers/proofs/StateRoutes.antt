-- routings of one state after another
use Rattle.std.proofs.Common.{◌≡◌, ℕ, ◌+◌, ◌≤◌, ◌++◌, List, [], ◌∷◌, All, Some, length, length-append, refl, sym, subst, ◌∙◌, arith, slice_get, sum_by, ⊎_elim}
use Rattle.plan_terms.specs.Terms.{Case, graph_in, AreDemands, IsDemand, Joins, Caps, Routing, Carries, IsSurvivable}
use Rattle.metric_cut.{specs.declared.cut.Cut.Cut, specs.inner.Rights.part_of, proofs.Sides.sum_is_right}
use Rattle.route_law.{specs.Terms.AreJoined, proofs.Lemmas.violated_carries_nothing}
use Rattle.module_choice.proofs.Carrying.{get_cases}
use Rattle.flow_mending.specs.Terms.{IsRouted, IsViolatedCut}

-- the routings of the first n states
pub record AreRoutedTo (p : Case) (caps : Caps) (n : ℕ) (routings : List Routing) : Type 0 where
  pub count : length routings ≡ n
  pub each : (s : ℕ) (r : Routing) → slice_get routings s ≡ Some r → IsRouted (graph_in p s) p.demands caps r

module _ (p : Case) (caps : Caps) where
  -- one state more
  pub routed_more : (n : ℕ) (routings : List Routing) (r : Routing) → AreRoutedTo p caps n routings → IsRouted (graph_in p n) p.demands caps r → AreRoutedTo p caps (n + 1) (routings ++ r ∷ [])
  routed_more n routings r before routed = record {
    count = omega (arith, length-append routings (r ∷ []), before.count);
    each = λ s x at. ⊎_elim
        (λ old. before.each s x old)
        (λ last. subst (λ i. IsRouted (graph_in p i) p.demands caps x) (sym (last.0 ∙ before.count)) (subst (IsRouted (graph_in p n) p.demands caps) (sym last.1) routed))
        (get_cases routings r x s at);
  }

  -- in a listed state of a case that no state separates all demands are joined
  pub survivable_joined : (s : ℕ) → IsSurvivable p → s ≤ length p.listed → AreJoined (graph_in p s) p.demands
  survivable_joined s survivable listed_state k d at needed apart = survivable s k listed_state (record { demand = d; at = at; needed = needed; apart = apart })

  -- capacities that violate a cut of a state carry the demands there in no routing
  pub short_state : (s : ℕ) (cut : Cut) → AreDemands (length p.nodes) p.demands → length caps.nums ≡ length p.links → IsViolatedCut (graph_in p s) p.demands caps cut
      → (r : Routing) → Carries (Joins (graph_in p s)) p.demands caps.scale caps.nums r → ⊥
  short_state s cut demands long v r carries =
      let right = sum_by (part_of cut.table) p.demands in
      let known : All (IsDemand cut.table.nodes) p.demands = subst (λ n. All (IsDemand n) p.demands) (sym v.of.distances.count) demands.each in
      let is = sum_is_right (Joins (graph_in p s)) cut.lengths (length p.nodes) cut.table p.demands right v.of.distances known refl in
      violated_carries_nothing (graph_in p s) p.demands caps r (record { state = cut.state; lengths = cut.lengths; right = right }) long v.of.kept is carries (v.violated right is)
