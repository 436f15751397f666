-- a best basis with keys as an answer
use Rattle.std.proofs.Common.{◌≡◌, ℕ, ℤ, List, Some, Result, Ok, Err, length, length-append, get_or, pos, unsigned_abs, ◌<◌, ◌+◌, ◌-◌, ◌^◌, refl, sym, ap, ◌∙◌, subst, arith, ⊎_elim, ◌*ℤ◌, ◌<ℤ◌, ◌≤ℤ◌}
use Rattle.net_core.proofs.Library.{◌∣◌, cases_lt, get_or_append_left, get_or-append_right, slice_get-get_or}
use Rattle.checked_fraction.specs.Terms.{num}
use Rattle.plan_terms.specs.Terms.{RouteColumn, LinkSlack, DemandSlack, WideKind, Number, Row as RowOf, Product, Sum, Common, Value, Length, Demand, Graph}
use Rattle.simplex_law.{specs.Terms.{ColumnOf, IsPacking, slack_basis, AreNames, IsReached, HoldsKind, IsReachedEvidence, IsOptimum}, proofs.Lemmas.{greatest, sum-same, dot-same}}
use Rattle.simplex_core.{specs.Terms.{Solves, IsSimplexAnswer, nums_at}, specs.declared.optimum.Optimum.Optimum, specs.declared.solver.SimplexFault.SimplexFault, specs.declared.solver.SimplexFault.TheVariants.{Wide, NoMemory}}
use Rattle.route_law.specs.Terms.{route_rows, route_slack, IsCarrying, IsRouteColumn}
use Rattle.key_law.{specs.Terms.{key, key_part, full_prices, role_value}, proofs.Lemmas.{kept_optimum, is_spread, wide_block_common}}
use Rattle.key_rows.{specs.Terms.IsKeyed, specs.declared.keyed.Keyed.Keyed}
use Rattle.key_paths.{specs.inner.Ends.{shares, role_over, IsEnded, IsWideEnd, IsKeyedEnd}, specs.inner.Gaining.NoneGains, proofs.Costs.none_gains, proofs.Fitting.{above, share_times, role_over_is, role_low}}

-- a basis is optimal also with values and prices that equal its own
optimum_same : {N : Type 0} (m : ℕ) (bound : ℕ → ℤ) (is_column : ColumnOf N → Type 0) (basis : ℕ → ColumnOf N) (values others : ℕ → ℤ) (den : ℤ) (duals prices : ℕ → ℤ) (duals_den : ℤ)
    → ((j : ℕ) → j < m → others j ≡ values j) → ((k : ℕ) → k < m → prices k ≡ duals k)
    → IsOptimum m bound is_column basis values den duals duals_den → IsOptimum m bound is_column basis others den prices duals_den
optimum_same m bound is_column basis values others den duals prices duals_den ev ep o = record {
  best = record {
    feasible = o.best.feasible;
    objective = (o.best.objective.0, λ j l. dot-same m prices duals _ _ ep (λ k lk. refl) ∙ o.best.objective.1 j l);
    none = λ c is gains. o.best.none c is (subst (λ x. x <ℤ (duals_den *ℤ c.gain)) (dot-same m prices duals c.entry c.entry ep (λ k lk. refl)) gains);
  };
  lowest = λ d of_den of_nums. o.lowest d of_den (λ k l. subst (λ x. d ∣ unsigned_abs x) (ep k l) (of_nums k l));
  positive = o.positive;
  values_positive = λ j l. subst (λ x. pos 0 ≤ℤ x) (sym (ev j l)) (o.values_positive j l);
  filled = λ k l. sum-same m _ _ (λ j lj. ap (λ x. x *ℤ (basis j).entry k) (ev j lj)) ∙ o.filled k l;
  equal = ap (λ x. duals_den *ℤ x) (sum-same m _ _ (λ j lj. ap (λ x. x *ℤ (basis j).gain) (ev j lj))) ∙ (o.equal ∙ ap (λ x. den *ℤ x) (sym (dot-same m prices duals bound bound ep (λ k lk. refl))));
}

module _ (g : Graph) (demands : List Demand) {bound : ℕ → ℤ} {basis : ℕ → ColumnOf RouteColumn} {place role : ℕ → ℕ} {b : Keyed}
    (h : IsKeyed (length g.links) (length demands) bound basis place role b) where
  abbrev rows : ℕ
  rows = route_rows g demands

  -- the names of the columns, by their places
  pub keyed_names : AreNames rows basis b.names
  keyed_names = record {
    count = h.shaped.names;
    each = λ j l. slice_get-get_or b.names j (DemandSlack 0) (omega (arith, l, h.shaped.names)) ∙ ap Some (sym (h.named j l).named);
  }

  module _ (packing : IsPacking rows bound (IsRouteColumn g demands)) (reached : IsReached rows bound (IsRouteColumn g demands) (slack_basis (route_slack g)) basis) where
    -- a basis whose rows have no narrow common denominator is evidence of that
    pub common_evidence : (names : List RouteColumn) (kind : WideKind RouteColumn) → names ≡ b.names → IsWideEnd b kind
        → IsReachedEvidence rows bound (route_slack g) (IsRouteColumn g demands) (HoldsKind rows bound (route_slack g) (IsRouteColumn g demands)) names kind
    common_evidence names Common same wide = record {
      basis = basis;
      evidence = record {
        named = subst (AreNames rows basis) (sym same) keyed_names;
        feasible = reached.here;
        holds = wide_block_common (IsRouteColumn g demands) h.kept wide.0 (λ multiple all. wide.2 multiple (λ i l. all i (omega (arith, l, h.shaped.rows)))) wide.1;
      };
      reached = reached;
    }
    common_evidence names (RowOf i) same wide = absurd wide
    common_evidence names (Product i name) same wide = absurd wide
    common_evidence names (Sum i) same wide = absurd wide
    common_evidence names (Number name) same wide = absurd wide
    common_evidence names Value same wide = absurd wide
    common_evidence names (Length link) same wide = absurd wide

    module _ (none : NoneGains g demands b) (best : Optimum RouteColumn) (ended : IsEnded b best) where
      -- the value at a place is that of its role
      value_at_place : (j : ℕ) → j < rows → pos (get_or best.values j 0) ≡ role_over b best.den (role j)
      value_at_place j l =
          let r = role j in
          let lr = h.kept.roles.role_in j l in
          let at : get_or b.places r 0 ≡ j = h.placed r lr ∙ h.kept.roles.back j l in
          ap (λ k. pos (get_or best.values k 0)) (sym at) ∙ ended.values r (omega (arith, lr, h.shaped.places))

      price_is : (k : ℕ) → k < rows → num best.duals.nums k ≡ full_prices (length g.links) (length demands) basis place (num b.prices.nums) b.prices.den k
      price_is k l =
          let n = length g.links in
          let q = length demands in
          let spread = is_spread n q (key_part n q basis place) (λ d. (key n q basis place d).gain) (num b.prices.nums) b.prices.den in
          ap (λ xs. num xs k) ended.duals ∙ ⊎_elim
          (λ lt. get_or_append_left b.prices.nums b.duals (pos 0) k (omega (arith, lt, h.shaped.prices)) ∙ sym (spread.link k lt))
          (λ ge. let back : n + (k - n) ≡ k = omega (arith, ge) in
          get_or-append_right b.prices.nums b.duals n k (pos 0) h.shaped.prices ge ∙ (h.duals (k - n) (omega (arith, l, ge)) ∙ ap (full_prices n q basis place (num b.prices.nums) b.prices.den) back))
          (cases_lt k n)

      optimal : IsOptimum rows bound (IsRouteColumn g demands) basis (λ j. pos (get_or best.values j 0)) (pos best.den) (num best.duals.nums) best.duals.den
      optimal =
          let some = ended.den.some in
          let low = ended.den.narrow in
          let all = ended.den.all in
          subst (λ d. IsOptimum rows bound (IsRouteColumn g demands) basis (λ j. pos (get_or best.values j 0)) (pos best.den) (num best.duals.nums) d) (sym ended.duals_den)
          (optimum_same rows bound (IsRouteColumn g demands) basis
          (λ j. role_value (length g.links) (length demands) basis place (nums_at b.rows) (num (shares b.rows best.den)) (pos best.den) bound (role j)) (λ j. pos (get_or best.values j 0)) (pos best.den)
          (full_prices (length g.links) (length demands) basis place (num b.prices.nums) b.prices.den) (num best.duals.nums) b.prices.den
          (λ j l. value_at_place j l ∙ role_over_is h best.den some low all (role j) (h.kept.roles.role_in j l)) price_is
          (kept_optimum h.kept (num (shares b.rows best.den)) (pos best.den) (share_times h best.den some low all) (above h best.den some low all) (IsRouteColumn g demands) reached.here.columns (none_gains g demands h none)))

      -- no price is negative, as no slack gains
      price_nonneg : (k : ℕ) → k < rows → pos 0 ≤ℤ num best.duals.nums k
      price_nonneg k l =
          let n = length g.links in
          subst (λ xs. pos 0 ≤ℤ num xs k) (sym ended.duals) (⊎_elim
          (λ lt. subst (λ x. pos 0 ≤ℤ x) (sym (get_or_append_left b.prices.nums b.duals (pos 0) k (omega (arith, lt, h.shaped.prices)))) (none (LinkSlack (record { 0 = k })) lt))
          (λ ge. subst (λ x. pos 0 ≤ℤ x) (sym (get_or-append_right b.prices.nums b.duals n k (pos 0) h.shaped.prices ge)) (none (DemandSlack (k - n)) (omega (arith, l, ge))))
          (cases_lt k n))

      -- the values solve the program
      pub keyed_solves : Solves rows bound (route_slack g) (IsCarrying g demands) best
      keyed_solves = record {
        basis = basis;
        names = subst (AreNames rows basis) (sym ended.names) keyed_names;
        reached = reached;
        optimum = optimal;
        greatest = greatest rows bound (route_slack g) (IsCarrying g demands) basis (λ j. pos (get_or best.values j 0)) (num best.duals.nums) (pos best.den) best.duals.den optimal;
        narrow = ended.den.narrow;
        low = λ j l. subst (λ x. unsigned_abs x < 2 ^ 124) (sym (value_at_place j l)) (role_low h best.den ended.den.some ended.den.narrow ended.den.all (IsRouteColumn g demands) packing reached.here.columns (role j) (h.kept.roles.role_in j l));
        count = ended.count ∙ h.shaped.places;
        prices = omega (arith, ap length ended.duals, length-append b.prices.nums b.duals, h.shaped.prices, h.shaped.duals);
        positive = price_nonneg;
      }

    -- what comes of a basis at which no column gains
    pub keyed_answer : NoneGains g demands b → (result : Result (Optimum RouteColumn) (SimplexFault RouteColumn)) → IsKeyedEnd b result → IsSimplexAnswer rows bound (route_slack g) (IsCarrying g demands) result
    keyed_answer none (Ok best) ended = keyed_solves none best ended
    keyed_answer none (Err (Wide names kind)) ended = common_evidence names kind ended.0 ended.1
    keyed_answer none (Err NoMemory) ended = tt
