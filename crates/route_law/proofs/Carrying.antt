-- where an optimum meets all needs, the flows of its basis carry the demands
use Rattle.std.proofs.Common.{◌≡◌, ℕ, zero, suc, ◌+◌, ◌*◌, ◌<◌, ◌≤◌, List, [], ◌∷◌, All, Bool, true, false, ◌||◌, cond, eqb, length, slice_index, refl, sym, ap, ◌∙◌, arith, subst, ⊎_elim, ne_eqb, ℤ, pos, ◌+ℤ◌, ◌*ℤ◌, ◌<ℤ◌, ◌≤ℤ◌}
use Rattle.net_core.proofs.Library.{AllByRecursion, cases_lt, slice_get_within, get_or_from_slice_get, get_or-map, *ℤ-zero, pos-*ℤ-pos, ints, below-same, below-none, below-one, below-times, below-le}
use Rattle.plan_terms.{specs.Terms.{RouteColumn, LinkSlack, DemandSlack, Demand, LinkId, Caps, Routing, Graph, Joins, names_link, sum_below, sent, load, IsFlow, Carries}, proofs.Lemmas.path_links_inside}
use Rattle.simplex_law.{specs.Terms.{int_sum, dot, unit_vector, ColumnOf, IsSlack, IsOptimum}, proofs.Lemmas.{le_times, lt_cancel, moved_out, distribute_left, sum-same, sum-le}}
use Rattle.route_law.{specs.BasisFlows.{is_of_demand, runs_over, AreFlowsOf}, specs.Laws.BasisFlowsCarry, specs.RoutingPrograms.{scaled_need, total_scaled_need, IsCarrying, route_rows, route_bound, route_slack, IsRouteColumn}, proofs.Rows.{beside_first, beside_after, beside_each, below-both, sum-pos}}

-- numbers that are nowhere above others, and sum to no less, are the others
all_met : (q : ℕ) (f g : ℕ → ℕ) → ((k : ℕ) → k < q → f k ≤ g k) → sum_below q g ≤ sum_below q f → (k : ℕ) → k < q → f k ≡ g k
all_met zero f g low e k l = absurd (omega (arith, l))
all_met (suc q) f g low e k l =
    let rest = below-le q f g (λ i h. low i (omega (arith, h))) in
    let top = low q (omega arith) in
    ⊎_elim
    (λ lk. all_met q f g (λ i h. low i (omega (arith, h))) (omega (arith, rest, top, e)) k lk)
    (λ g'. let at : q ≡ k = omega (arith, g', l) in subst (λ i. f i ≡ g i) at (omega (arith, rest, top, e)))
    (cases_lt k q)

pub not_named : (n e : ℕ) (es : List LinkId) → n ≤ e → AllByRecursion (λ x. x.0 < n) es → names_link e es ≡ false
not_named n e [] le all = refl
not_named n e (x ∷ xs) le all = ap (λ b. b || names_link e xs) (ne_eqb x.0 e (λ z. omega (arith, z, le, all.0))) ∙ not_named n e xs le all.1

one_or_none : (v : ℕ) (b : Bool) → pos v *ℤ pos (cond b 1 0) ≡ pos (cond b v 0)
one_or_none v true = omega (arith, ints)
one_or_none v false = *ℤ-zero (pos v)

unit_nonneg : (i k : ℕ) → pos 0 ≤ℤ unit_vector i k
unit_nonneg i k = elim (eqb i k) as (λ t. pos 0 ≤ℤ cond t (pos 1) (pos 0)) [ true ↦ omega (arith, ints) | false ↦ omega (arith, ints) ]

bit_le : (b : Bool) (z : ℤ) → z ≡ cond b (pos 1) (pos 0) → pos (cond b 1 0) ≤ℤ z
bit_le true z e = omega (arith, ints, e)
bit_le false z e = omega (arith, ints, e)

no_bit : (b : Bool) (z : ℤ) → b ≡ false → pos 0 ≤ℤ z → pos (cond b 1 0) ≤ℤ z
no_bit true z e h = absurd (cc e)
no_bit false z e h = h

module _ (g : Graph) (demands : List Demand) where
  slack_runs : (row e : ℕ) → runs_over (route_slack g row) e ≡ false
  slack_runs row e = beside_each (λ name. runs_over name e ≡ false) (length g.links) (λ i. LinkSlack (record { 0 = i })) (λ k. DemandSlack k) row (λ l. refl) (λ l. refl)

  slack_of : (row k : ℕ) → is_of_demand (route_slack g row) k ≡ false
  slack_of row k = beside_each (λ name. is_of_demand name k ≡ false) (length g.links) (λ i. LinkSlack (record { 0 = i })) (λ k. DemandSlack k) row (λ l. refl) (λ l. refl)

  abbrev IsColumn : ColumnOf RouteColumn → Type 0
  IsColumn = IsRouteColumn g demands

  link_entry : (c : ColumnOf RouteColumn) → IsColumn c → (e : ℕ) → e < length g.links → pos (cond (runs_over c.name e) 1 0) ≤ℤ c.entry e
  link_entry c is e l = ⊎_elim
      (λ (carry : IsCarrying g demands c). bit_le (runs_over c.name e) (c.entry e)
      (carry.entry e (omega (arith, l)) ∙ (beside_first (length g.links) (λ i. cond (names_link i carry.path) (pos 1) (pos 0)) (unit_vector carry.place) e l ∙ sym (ap (λ name. cond (runs_over name e) (pos 1) (pos 0)) carry.named))))
      (λ (slack : IsSlack (route_rows g demands) (route_slack g) c). no_bit (runs_over c.name e) (c.entry e) (ap (λ name. runs_over name e) slack.named ∙ slack_runs slack.row e)
      (subst (λ x. pos 0 ≤ℤ x) (sym (slack.entry e (omega (arith, l)))) (unit_nonneg slack.row e)))
      is

  demand_entry : (c : ColumnOf RouteColumn) → IsColumn c → (k : ℕ) → k < length demands → pos (cond (is_of_demand c.name k) 1 0) ≤ℤ c.entry (length g.links + k)
  demand_entry c is k l = ⊎_elim
      (λ (carry : IsCarrying g demands c). bit_le (is_of_demand c.name k) (c.entry (length g.links + k))
      (carry.entry (length g.links + k) (omega (arith, l)) ∙ (beside_after (length g.links) (λ i. cond (names_link i carry.path) (pos 1) (pos 0)) (unit_vector carry.place) k
      ∙ sym (ap (λ name. cond (is_of_demand name k) (pos 1) (pos 0)) carry.named))))
      (λ (slack : IsSlack (route_rows g demands) (route_slack g) c). no_bit (is_of_demand c.name k) (c.entry (length g.links + k)) (ap (λ name. is_of_demand name k) slack.named ∙ slack_of slack.row k)
      (subst (λ x. pos 0 ≤ℤ x) (sym (slack.entry (length g.links + k) (omega (arith, l)))) (unit_nonneg slack.row (length g.links + k))))
      is

  gain_is : (c : ColumnOf RouteColumn) → IsColumn c → c.gain ≡ pos (sum_below (length demands) (λ k. cond (is_of_demand c.name k) 1 0))
  gain_is c is = ⊎_elim
      (λ (carry : IsCarrying g demands c). carry.gain ∙ sym (ap (λ name. pos (sum_below (length demands) (λ k. cond (is_of_demand name k) 1 0))) carry.named
      ∙ ap pos (below-one (length demands) carry.place (λ k. 1) (slice_get_within demands carry.place carry.demand carry.at))))
      (λ (slack : IsSlack (route_rows g demands) (route_slack g) c). slack.gain ∙ sym (ap (λ name. pos (sum_below (length demands) (λ k. cond (is_of_demand name k) 1 0))) slack.named
      ∙ ap pos (below-same (length demands) (λ k. cond (is_of_demand (route_slack g slack.row) k) 1 0) (λ k. 0) (λ k l. ap (λ b. cond b 1 0) (slack_of slack.row k)) ∙ below-none (length demands))))
      is

  past_links : (c : ColumnOf RouteColumn) → IsColumn c → (e : ℕ) → length g.links ≤ e → runs_over c.name e ≡ false
  past_links c is e le = ⊎_elim
      (λ (carry : IsCarrying g demands c). ap (λ name. runs_over name e) carry.named
      ∙ not_named (length g.links) e carry.path le (path_links_inside g carry.demand.from.0 carry.demand.to.0 carry.path carry.leads))
      (λ (slack : IsSlack (route_rows g demands) (route_slack g) c). ap (λ name. runs_over name e) slack.named ∙ slack_runs slack.row e)
      is

  module _ (caps : Caps) (basis : ℕ → ColumnOf RouteColumn) (amounts : ℕ → ℕ) (den : ℕ) (duals : ℕ → ℤ) (duals_den : ℤ)
      (o : IsOptimum (route_rows g demands) (route_bound g demands caps) IsColumn basis (λ j. pos (amounts j)) (pos den) duals duals_den) where
    abbrev m : ℕ
    m = route_rows g demands

    -- a row of which the columns' bits are no more than the entries
    row_low : (r : ℕ) (bit : RouteColumn → Bool) → r < m → ((j : ℕ) → j < m → pos (cond (bit (basis j).name) 1 0) ≤ℤ (basis j).entry r) → pos (sum_below m (λ j. cond (bit (basis j).name) (amounts j) 0)) ≤ℤ (pos den *ℤ route_bound g demands caps r)
    row_low r bit l low =
        let less = sum-le m (λ j. pos (amounts j) *ℤ pos (cond (bit (basis j).name) 1 0)) (λ j. pos (amounts j) *ℤ (basis j).entry r) (λ j h. le_times (pos (amounts j)) _ _ (omega (arith, ints)) (low j h)) in
        let left : int_sum m (λ j. pos (amounts j) *ℤ pos (cond (bit (basis j).name) 1 0)) ≡ pos (sum_below m (λ j. cond (bit (basis j).name) (amounts j) 0)) =
        sum-same m _ (λ j. pos (cond (bit (basis j).name) (amounts j) 0)) (λ j h. one_or_none (amounts j) (bit (basis j).name)) ∙ sum-pos m (λ j. cond (bit (basis j).name) (amounts j) 0) in
        omega (arith, ints, less, left, o.filled r l)

    -- where the value isn't below the sum of the needs, the flows carry the demands
    pub flows_carry : (routing : Routing) → routing.den ≡ den → AreFlowsOf m basis amounts routing.flows → All (IsFlow (Joins g) demands) routing.flows
        → pos (den * total_scaled_need demands caps) ≤ℤ int_sum m (λ j. pos (amounts j) *ℤ (basis j).gain)
        → Carries (Joins g) demands caps.scale caps.nums routing
    flows_carry routing same of flows value = record {
      den = subst (λ d. 0 < d) (sym same) (some den o.positive);
      flows = flows;
      met = λ k d at. let l = slice_get_within demands k d at in
          let needed : scaled_need demands caps k ≡ d.need * caps.scale = ap (λ x. x * caps.scale) (get_or-map (λ (e : Demand). e.need) demands k d 0 l ∙ ap (λ (e : Demand). e.need) (get_or_from_slice_get demands k d d at)) in
          all_met (length demands) (sent routing.flows) (λ i. den * scaled_need demands caps i) sent_low total k l ∙ (ap (λ x. den * x) needed ∙ (ap (λ x. x * (d.need * caps.scale)) (sym same) ∙ omega arith));
      within = λ e. ⊎_elim
          (λ l. link_low e l)
          (λ past. omega (arith, of.load_is e ∙ (below-same m (λ j. cond (runs_over (basis j).name e) (amounts j) 0) (λ j. 0) (λ j h. ap (λ b. cond b (amounts j) 0) (past_links (basis j) (o.best.feasible.columns j h) e past)) ∙ below-none m)))
          (cases_lt e (length g.links));
    }
      where
        some : (n : ℕ) → pos 0 <ℤ pos n → 0 < n
        some zero h = absurd (omega (arith, ints, h))
        some (suc n) h = omega arith

        sent_low : (k : ℕ) → k < length demands → sent routing.flows k ≤ den * (scaled_need demands caps k)
        sent_low k l =
            let low = row_low (length g.links + k) (λ name. is_of_demand name k) (omega (arith, l)) (λ j h. demand_entry (basis j) (o.best.feasible.columns j h) k l) in
            let bound : route_bound g demands caps (length g.links + k) ≡ pos (scaled_need demands caps k) = beside_after (length g.links) (λ e. pos (slice_index caps.nums e)) (λ i. pos (scaled_need demands caps i)) k in
            omega (arith, ints, low, of.sent_is k, ap (λ x. pos den *ℤ x) bound ∙ pos-*ℤ-pos den (scaled_need demands caps k))

        total : sum_below (length demands) (λ i. den * (scaled_need demands caps i)) ≤ sum_below (length demands) (sent routing.flows)
        total =
            let q = length demands in
            let bits : ℕ → ℕ → ℕ = λ j k. cond (is_of_demand (basis j).name k) 1 0 in
            let one : sum_below q (sent routing.flows) ≡ sum_below m (λ j. amounts j * sum_below q (bits j)) =
            below-same q (sent routing.flows) (λ k. sum_below m (λ j. cond (is_of_demand (basis j).name k) (amounts j) 0)) (λ k l. of.sent_is k)
            ∙ (below-both q m (λ k j. cond (is_of_demand (basis j).name k) (amounts j) 0)
            ∙ below-same m (λ j. sum_below q (λ k. cond (is_of_demand (basis j).name k) (amounts j) 0)) (λ j. amounts j * sum_below q (bits j))
            (λ j h. below-same q (λ k. cond (is_of_demand (basis j).name k) (amounts j) 0) (λ k. amounts j * bits j k) (λ k l. times_bit (amounts j) (is_of_demand (basis j).name k)) ∙ below-times q (amounts j) (bits j))) in
            let two : pos (sum_below m (λ j. amounts j * sum_below q (bits j))) ≡ int_sum m (λ j. pos (amounts j) *ℤ (basis j).gain) =
            sym (sum-pos m (λ j. amounts j * sum_below q (bits j)))
            ∙ sum-same m _ _ (λ j h. sym (pos-*ℤ-pos (amounts j) (sum_below q (bits j))) ∙ ap (λ x. pos (amounts j) *ℤ x) (sym (gain_is (basis j) (o.best.feasible.columns j h)))) in
            omega (arith, ints, one, two, value, below-times q den (λ i. scaled_need demands caps i))
          where
            times_bit : (v : ℕ) (b : Bool) → cond b v 0 ≡ v * cond b 1 0
            times_bit v true = omega arith
            times_bit v false = omega arith

        link_low : (e : ℕ) → e < length g.links → load routing.flows e ≤ slice_index caps.nums e * routing.den
        link_low e l =
            let low = row_low e (λ name. runs_over name e) (omega (arith, l)) (λ j h. link_entry (basis j) (o.best.feasible.columns j h) e l) in
            let bound : route_bound g demands caps e ≡ pos (slice_index caps.nums e) = beside_first (length g.links) (λ i. pos (slice_index caps.nums i)) (λ i. pos (scaled_need demands caps i)) e l in
            omega (arith, ints, low, of.load_is e, ap (λ x. pos den *ℤ x) bound ∙ pos-*ℤ-pos den (slice_index caps.nums e), ap (λ x. slice_index caps.nums e * x) same)

    -- where it is below, so is the value of the duals
    pub duals_below : int_sum m (λ j. pos (amounts j) *ℤ (basis j).gain) <ℤ pos (den * total_scaled_need demands caps)
        → dot m duals (route_bound g demands caps) <ℤ (duals_den *ℤ pos (total_scaled_need demands caps))
    duals_below below =
        let total = total_scaled_need demands caps in
        let gained = int_sum m (λ j. pos (amounts j) *ℤ (basis j).gain) in
        let up : (duals_den *ℤ gained) <ℤ (duals_den *ℤ pos (den * total)) = lt_times_z duals_den gained (pos (den * total)) o.best.objective.0 below in
        let other : duals_den *ℤ pos (den * total) ≡ pos den *ℤ (duals_den *ℤ pos total) = ap (λ x. duals_den *ℤ x) (sym (pos-*ℤ-pos den total)) ∙ moved_out duals_den (pos den) (pos total) in
        lt_cancel (pos den) (dot m duals (route_bound g demands caps)) (duals_den *ℤ pos total) o.positive
        (subst (λ x. x <ℤ (pos den *ℤ (duals_den *ℤ pos total))) o.equal (subst (λ y. (duals_den *ℤ gained) <ℤ y) other up))
      where
        lt_times_z : (c x y : ℤ) → pos 0 <ℤ c → x <ℤ y → (c *ℤ x) <ℤ (c *ℤ y)
        lt_times_z c x y pc h = lt_of (c *ℤ x) (c *ℤ y) (omega (arith, ints, le_times c (x +ℤ pos 1) y (omega (arith, ints, pc)) (omega (arith, ints, h)), distribute_left x (pos 1) c, one_of c, pc))
          where
            one_of : (z : ℤ) → z *ℤ pos 1 ≡ z
            one_of z = omega (arith, ints)

            lt_of : (x y : ℤ) → x <ℤ y → x <ℤ y
            lt_of x y h = h

pub basis_flows_carry : BasisFlowsCarry
basis_flows_carry g demands caps basis amounts den duals duals_den routing o same of flows value = flows_carry g demands caps basis amounts den duals duals_den o routing same of flows value
