-- what the amounts of a basis leave of the needs
use Rattle.std.proofs.Common.{◌≡◌, ℕ, zero, suc, ◌+◌, ◌-◌, ◌*◌, ◌<◌, ◌≤◌, List, cond, length, slice_index, refl, sym, ap, ◌∙◌, arith, subst, ⊎_elim, ℤ, pos, ◌+ℤ◌, ◌*ℤ◌, ◌<ℤ◌, ◌≤ℤ◌}
use Rattle.net_core.proofs.Library.{cases_lt, slice_get_within, pos-*ℤ-pos, ints, below-same, below-none}
use Rattle.plan_terms.specs.Terms.{RouteColumn, LinkSlack, DemandSlack, Carry, Demand, Caps, Graph, names_link, sum_below}
use Rattle.simplex_law.{specs.Terms.{int_sum, unit_vector, ColumnOf, IsSlack, IsOptimum}, proofs.Lemmas.{distribute_left, sum-plus, sum-times, sum-same, sum-none, sum-swapped, sum-one, unit-same, unit-other}}
use Rattle.route_law.{specs.Laws.basis_gain, specs.RoutingPrograms.{scaled_need, total_scaled_need, IsCarrying, route_rows, route_bound, route_slack, IsRouteColumn}, proofs.Rows.{beside_first, beside_second, beside_after, sum-pos}}

-- 1 for the slack of a demand
abbrev left_of : RouteColumn → ℕ
left_of (LinkSlack link) = 0
left_of (DemandSlack demand) = 1
left_of (Carry demand path) = 0

pub below_term : (m : ℕ) (f : ℕ → ℕ) (i : ℕ) → i < m → f i ≤ sum_below m f
below_term zero f i l = absurd (omega (arith, l))
below_term (suc m) f i l = ⊎_elim
    (λ lt. omega (arith, below_term m f i lt))
    (λ ge. let same : m ≡ i = omega (arith, ge, l) in subst (λ j. f j ≤ sum_below (suc m) f) same (omega arith))
    (cases_lt i m)

module _ (g : Graph) (demands : List Demand) where
  -- the entries in the demands' rows are the gain, and 1 more for a demand's slack
  rows_of_demands : (c : ColumnOf RouteColumn) → IsRouteColumn g demands c → int_sum (length demands) (λ k. c.entry (length g.links + k)) ≡ c.gain +ℤ pos (left_of c.name)
  rows_of_demands c is = ⊎_elim carrying slack is
    where
      carrying : IsCarrying g demands c → int_sum (length demands) (λ k. c.entry (length g.links + k)) ≡ c.gain +ℤ pos (left_of c.name)
      carrying h =
          let each : (k : ℕ) → k < length demands → c.entry (length g.links + k) ≡ unit_vector h.place k = λ k l.
          h.entry (length g.links + k) (omega (arith, l)) ∙ beside_after (length g.links) (λ e. cond (names_link e h.path) (pos 1) (pos 0)) (unit_vector h.place) k in
          sum-same (length demands) _ (unit_vector h.place) each
          ∙ (sum-one (length demands) h.place (unit_vector h.place) (pos 1) (slice_get_within demands h.place h.demand h.at) (λ k l ne. unit-other h.place k (λ e. ne (sym e))) (unit-same h.place)
          ∙ omega (arith, ints, h.gain, ap (λ name. left_of name) h.named))

      slack : IsSlack (route_rows g demands) (route_slack g) c → int_sum (length demands) (λ k. c.entry (length g.links + k)) ≡ c.gain +ℤ pos (left_of c.name)
      slack s = ⊎_elim
          (λ first.
          let name : left_of c.name ≡ 0 = ap left_of (s.named ∙ beside_first (length g.links) (λ e. LinkSlack (record { 0 = e })) (λ k. DemandSlack k) s.row first) in
          let none : int_sum (length demands) (λ k. c.entry (length g.links + k)) ≡ pos 0 = sum-same (length demands) _ (λ k. pos 0) (λ k l. s.entry (length g.links + k) (omega (arith, l)) ∙ unit-other s.row (length g.links + k) (λ e. omega (arith, e, first)))
          ∙ sum-none (length demands) in
          omega (arith, ints, none, s.gain, name))
          (λ second.
          let name : left_of c.name ≡ 1 = ap left_of (s.named ∙ beside_second (length g.links) (λ e. LinkSlack (record { 0 = e })) (λ k. DemandSlack k) s.row second) in
          let one : int_sum (length demands) (λ k. c.entry (length g.links + k)) ≡ pos 1 =
          sum-one (length demands) (s.row - length g.links) (λ k. c.entry (length g.links + k)) (pos 1) (omega (arith, s.inside, second))
          (λ k l ne. s.entry (length g.links + k) (omega (arith, l)) ∙ unit-other s.row (length g.links + k) (λ e. ne (omega (arith, e))))
          (s.entry (length g.links + (s.row - length g.links)) (omega (arith, s.inside, second)) ∙ (ap (unit_vector s.row) (back s.row second) ∙ unit-same s.row)) in
          omega (arith, ints, one, s.gain, name))
          (cases_lt s.row (length g.links))
        where
          back : (r : ℕ) → length g.links ≤ r → length g.links + (r - length g.links) ≡ r
          back r le = omega (arith, le)

  module _ (caps : Caps) (basis : ℕ → ColumnOf RouteColumn) (amounts : ℕ → ℕ) (den : ℕ) (duals : ℕ → ℤ) (duals_den : ℤ)
      (o : IsOptimum (route_rows g demands) (route_bound g demands caps) (IsRouteColumn g demands) basis (λ j. pos (amounts j)) (pos den) duals duals_den) where
    abbrev m : ℕ
    m = route_rows g demands

    -- what is gained and what is left are the needs
    value_left : basis_gain (route_rows g demands) basis amounts +ℤ pos (sum_below (route_rows g demands) (λ j. amounts j * left_of (basis j).name)) ≡ pos (den * total_scaled_need demands caps)
    value_left =
        let q = length demands in
        let n = length g.links in
        let filled : int_sum q (λ k. int_sum m (λ j. pos (amounts j) *ℤ (basis j).entry (n + k))) ≡ pos (den * total_scaled_need demands caps) =
        sum-same q _ (λ k. pos den *ℤ pos (scaled_need demands caps k)) (λ k l. o.filled (n + k) (omega (arith, l)) ∙ ap (λ x. pos den *ℤ x) (beside_after n (λ e. pos (slice_index caps.nums e)) (λ i. pos (scaled_need demands caps i)) k))
        ∙ (sum-times q (pos den) (λ k. pos (scaled_need demands caps k)) ∙ (ap (λ x. pos den *ℤ x) (sum-pos q (scaled_need demands caps)) ∙ pos-*ℤ-pos den (total_scaled_need demands caps))) in
        let columns : int_sum q (λ k. int_sum m (λ j. pos (amounts j) *ℤ (basis j).entry (n + k))) ≡ int_sum m (λ j. (pos (amounts j) *ℤ (basis j).gain) +ℤ pos (amounts j * left_of (basis j).name)) =
        sum-swapped q m (λ k j. pos (amounts j) *ℤ (basis j).entry (n + k))
        ∙ sum-same m _ _ (λ j l. sum-times q (pos (amounts j)) (λ k. (basis j).entry (n + k))
        ∙ (ap (λ x. pos (amounts j) *ℤ x) (rows_of_demands (basis j) (o.best.feasible.columns j l))
        ∙ (distribute_left (basis j).gain (pos (left_of (basis j).name)) (pos (amounts j)) ∙ ap (λ x. (pos (amounts j) *ℤ (basis j).gain) +ℤ x) (pos-*ℤ-pos (amounts j) (left_of (basis j).name))))) in
        let parts : int_sum m (λ j. (pos (amounts j) *ℤ (basis j).gain) +ℤ pos (amounts j * left_of (basis j).name)) ≡ basis_gain m basis amounts +ℤ pos (sum_below m (λ j. amounts j * left_of (basis j).name)) =
        sum-plus m (λ j. pos (amounts j) *ℤ (basis j).gain) (λ j. pos (amounts j * left_of (basis j).name))
        ∙ ap (λ x. basis_gain m basis amounts +ℤ x) (sum-pos m (λ j. amounts j * left_of (basis j).name)) in
        sym parts ∙ (sym columns ∙ filled)

    -- where nothing is left of any demand, all needs are met
    pub all_gained : ((j k : ℕ) → j < m → (basis j).name ≡ DemandSlack k → amounts j ≡ 0) → pos (den * total_scaled_need demands caps) ≤ℤ basis_gain (route_rows g demands) basis amounts
    all_gained none =
        let nothing : sum_below m (λ j. amounts j * left_of (basis j).name) ≡ 0 = below-same m _ (λ j. 0) (λ j l. nil (basis j).name (amounts j) (λ k e. none j k l e)) ∙ below-none m in
        omega (arith, ints, value_left, nothing)
      where
        nil : (name : RouteColumn) (a : ℕ) → ((k : ℕ) → name ≡ DemandSlack k → a ≡ 0) → a * left_of name ≡ 0
        nil (LinkSlack link) a h = omega arith
        nil (DemandSlack k) a h = ap (λ x. x * 1) (h k refl) ∙ omega arith
        nil (Carry k path) a h = omega arith

    -- where something is left of a demand, they aren't
    pub some_left : (j k : ℕ) → j < m → (basis j).name ≡ DemandSlack k → 0 < amounts j → basis_gain (route_rows g demands) basis amounts <ℤ pos (den * total_scaled_need demands caps)
    some_left j k l named some =
        let term = below_term m (λ i. amounts i * left_of (basis i).name) j l in
        let one : amounts j * left_of (basis j).name ≡ amounts j = ap (λ name. amounts j * left_of name) named ∙ omega arith in
        omega (arith, ints, value_left, term, one, some)
