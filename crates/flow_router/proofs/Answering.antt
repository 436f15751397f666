-- what an optimum of the routing program answers
use Rattle.std.proofs.Common.{◌≡◌, ℕ, zero, suc, ◌+◌, ◌*◌, ◌<◌, ◌≤◌, ◌^◌, List, [], ◌∷◌, All, Some, cond, eqb, get_or, length, map, slice_get, slice_index, ⊎_elim, refl, sym, ap, ◌∙◌, subst, arith, pos, ◌*ℤ◌, ◌<ℤ◌, eq-eqb}
use Rattle.net_core.proofs.Library.{◌∣◌, cases_eq, get_or-map, length-map, sum_by-cons, get_or_from_slice_get, slice_get_within, eq-one_of_dvd-one}
use Rattle.checked_fraction.specs.Terms.{num, IsNarrow}
use Rattle.plan_terms.specs.Terms.{RouteColumn, DemandSlack, Carry, Demand, Caps, Flow, Routing, Graph, Joins, Carries, IsFlow, sent, IsPath}
use Rattle.greedy_router.{specs.Left.IsLeft, specs.declared.greedy_flows.Left.Left}
use Rattle.simplex_law.specs.Terms.{dot, IsSlack, AreNames}
use Rattle.simplex_core.{specs.Terms.Solves, specs.declared.optimum.Optimum.Optimum}
use Rattle.route_law.{specs.Terms.{AreFlowsOf, flow_times, scaled_need, total_scaled_need, route_rows, route_bound, route_slack, IsCarrying}, proofs.Lemmas.{duals_below, flows_carry, carried_lowest, all_gained, some_left, no_slack, beside_after}}
use Rattle.flow_router.{specs.Answers.IsRouted, specs.inner.Flowing.{AreBasisFlows, IsBasisFlow, LeavesNeed}, specs.Lowest.IsInLowest}

less_den : (c n limit : ℕ) → 0 < c → c * n < limit → n < limit
less_den zero n limit pc big = absurd (omega (arith, pc))
less_den (suc c) n limit pc big = omega (arith, big)

-- over a smaller denominator numerators are smaller
low_nums : (c limit : ℕ) (fs : List Flow) → 0 < c → All (λ f. f.num < limit) (map (flow_times c) fs) → All (λ f. f.num < limit) fs
low_nums c limit [] pc all k d lt = absurd (omega (arith, lt))
low_nums c limit (f ∷ fs) pc all zero d lt = less_den c f.num limit pc (all 0 f (omega arith))
low_nums c limit (f ∷ fs) pc all (suc k) d lt = low_nums c limit fs pc (λ i x l. all (suc i) x (omega (arith, l))) k d (omega (arith, lt))

module _ (g : Graph) (demands : List Demand) (caps : Caps) where
  abbrev IsBest : Optimum RouteColumn → Type 0
  IsBest = Solves (route_rows g demands) (route_bound g demands caps) (route_slack g) (IsCarrying g demands)

  module _ (best : Optimum RouteColumn) (s : IsBest best) where
    abbrev amounts : ℕ → ℕ
    amounts j = get_or best.values j 0

    named_at : (j : ℕ) (name : RouteColumn) → slice_get best.basis j ≡ Some name → (j < route_rows g demands) × ((s.basis j).name ≡ name)
    named_at j name at = let l : j < route_rows g demands = subst (λ n. j < n) s.names.count (slice_get_within best.basis j name at) in (l, cc (s.names.each j l, at))

    -- a flow of the basis is one of the demand
    is_flow : (f : Flow) → IsBasisFlow best.basis best.values f → IsFlow (Joins g) demands f
    is_flow f b =
        let at = named_at b.place (Carry f.demand f.path) b.at in
        ⊎_elim
        (λ (h : IsCarrying g demands (s.basis b.place)).
        let name : Carry h.place h.path ≡ Carry f.demand f.path = sym h.named ∙ at.1 in
        let place : h.place ≡ f.demand = cc name in
        let path : h.path ≡ f.path = cc name in
        record { positive = b.positive; of = h.demand; at = subst (λ k. slice_get demands k ≡ Some h.demand) place h.at; path = subst (λ es. IsPath (Joins g) h.demand.from.0 h.demand.to.0 es) path h.leads })
        (λ (t : IsSlack (route_rows g demands) (route_slack g) (s.basis b.place)). absurd (no_slack g f.demand f.path t.row (sym at.1 ∙ t.named)))
        (s.optimum.best.feasible.columns b.place at.0)

    flows_are : (flows : List Flow) → All (IsBasisFlow best.basis best.values) flows → All (IsFlow (Joins g) demands) flows
    flows_are flows all k d lt = is_flow (get_or flows k d) (all k d lt)

    nums_low : (flows : List Flow) → All (IsBasisFlow best.basis best.values) flows → All (λ f. f.num < 2 ^ 124) flows
    nums_low flows all k d lt =
        let b = all k d lt in
        subst (λ n. n < 2 ^ 124) (sym b.num) (s.low b.place (named_at b.place (Carry (get_or flows k d).demand (get_or flows k d).path) b.at).0)

    raw_carries : (flows : List Flow) → AreBasisFlows best.basis best.values (length best.basis) flows → (LeavesNeed best.basis best.values → ⊥)
        → Carries (Joins g) demands caps.scale caps.nums (record { den = best.den; flows = flows })
    raw_carries flows of met =
        let sums : AreFlowsOf (route_rows g demands) s.basis amounts flows = subst (λ n. AreFlowsOf n s.basis amounts flows) s.names.count (of.sums s.basis (subst (λ n. AreNames n s.basis best.basis) (sym s.names.count) s.names)) in
        flows_carry g demands caps s.basis amounts best.den (num best.duals.nums) best.duals.den s.optimum (record { den = best.den; flows = flows }) refl sums (flows_are flows of.each)
        (all_gained g demands caps s.basis amounts best.den (num best.duals.nums) best.duals.den s.optimum
        (λ j k l named. ⊎_elim
        (λ z. z)
        (λ some. absurd (met (record { place = j; demand = k; at = s.names.each j l ∙ ap Some named; positive = omega (arith, some) })))
        (cases_eq (amounts j) 0)))

    -- the flows of a best basis that leaves nothing
    pub optimum_routed : (flows : List Flow) (routing : Routing) → AreBasisFlows best.basis best.values (length best.basis) flows → (LeavesNeed best.basis best.values → ⊥)
        → IsInLowest (record { den = best.den; flows = flows }) routing → IsRouted g demands caps routing
    optimum_routed flows routing of met low =
        let den : best.den ≡ low.common * routing.den = ap (λ (r : Routing). r.den) low.is in
        let list : flows ≡ map (flow_times low.common) routing.flows = ap (λ (r : Routing). r.flows) low.is in
        record {
          carries = carried_lowest (Joins g) demands low.common caps.scale caps.nums routing low.positive (subst (λ r. Carries (Joins g) demands caps.scale caps.nums r) low.is (raw_carries flows of met));
          lowest = low.lowest_terms;
          few = omega (arith, of.few, s.names.count, ap length list, length-map routing.flows (flow_times low.common));
          den_limit = less_den low.common routing.den (2 ^ 62) low.positive (subst (λ n. n < 2 ^ 62) den s.narrow);
          nums_limit = low_nums low.common (2 ^ 124) routing.flows low.positive (subst (All (λ f. f.num < 2 ^ 124)) list (nums_low flows of.each));
        }

    -- a best basis that leaves something of a demand is worth less than the needs
    pub optimum_below : LeavesNeed best.basis best.values → dot (route_rows g demands) (num best.duals.nums) (route_bound g demands caps) <ℤ (best.duals.den *ℤ pos (total_scaled_need demands caps))
    optimum_below left =
        let at = named_at left.place (DemandSlack left.demand) left.at in
        duals_below g demands caps s.basis amounts best.den (num best.duals.nums) best.duals.den s.optimum
        (some_left g demands caps s.basis amounts best.den (num best.duals.nums) best.duals.den s.optimum left.place left.demand at.0 at.1 left.positive)

  sent_at : (flows : List Flow) (k : ℕ) (d : Flow) → k < length flows → (get_or flows k d).num ≤ sent flows (get_or flows k d).demand
  sent_at [] k d lt = absurd (omega (arith, lt))
  sent_at (f ∷ fs) zero d lt = omega (arith, sum_by-cons (λ (x : Flow). cond (eqb x.demand f.demand) x.num 0) f fs, ap (λ b. cond b f.num 0) (eq-eqb f.demand f.demand refl))
  sent_at (f ∷ fs) (suc k) d lt =
      omega (arith, sum_by-cons (λ (x : Flow). cond (eqb x.demand (get_or fs k d).demand) x.num 0) f fs, sent_at fs k d (omega (arith, lt)))

  -- a greedy routing that leaves nothing
  pub greedy_routed : (left : Left) → length caps.nums ≡ length g.links → ((k : ℕ) → k < route_rows g demands → IsNarrow (route_bound g demands caps k))
      → IsLeft (Joins g) demands caps.scale caps.nums left → All (λ r. r ≡ 0) left.rest → IsRouted g demands caps left.routing
  greedy_routed left count narrow is whole = record {
    carries = record {
      den = omega (arith, is.whole);
      flows = is.flows;
      met = λ k d at. let none = whole k 0 (subst (λ n. k < n) (sym is.count) (slice_get_within demands k d at)) in
          omega (arith, is.met k d at, none, ap (λ x. d.need * caps.scale * x) is.whole);
      within = λ e. omega (arith, is.within e, ap (λ x. slice_index caps.nums e * x) is.whole);
    };
    lowest = λ d of_den of_nums. eq-one_of_dvd-one (subst (λ n. d ∣ n) is.whole of_den);
    few = omega (arith, is.few, count);
    den_limit = omega (arith, is.whole);
    nums_limit = λ k d lt.
        let f = get_or left.routing.flows k d in
        let flow = is.flows k d lt in
        let inside = slice_get_within demands f.demand flow.of flow.at in
        let need : scaled_need demands caps f.demand ≡ flow.of.need * caps.scale = ap (λ x. x * caps.scale) (get_or-map (λ (e : Demand). e.need) demands f.demand flow.of 0 inside ∙ ap (λ (e : Demand). e.need) (get_or_from_slice_get demands f.demand flow.of flow.of flow.at)) in
        let low : scaled_need demands caps f.demand < 2 ^ 62 = subst IsNarrow (beside_after (length g.links) (λ e. pos (slice_index caps.nums e)) (λ i. pos (scaled_need demands caps i)) f.demand) (narrow (length g.links + f.demand) (omega (arith, inside))) in
        omega (arith, sent_at left.routing.flows k d lt, is.met f.demand flow.of flow.at, need, low);
  }
