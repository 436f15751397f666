-- evidence of the slack basis, and evidence of the routing program from that of a packing program
use Rattle.std.proofs.Common.{ℕ, ◌<◌, List, refl, inl, pos}
use Rattle.plan_terms.specs.Terms.{RouteColumn, WideKind, Number, Row, Product, Sum, Common, Value, Length, Demand, Caps, Graph}
use Rattle.simplex_law.{specs.Terms.{unit_vector, ColumnOf, slack_basis, AreNames, HoldsKind, IsWide}, proofs.Lemmas.{start_reached, started}}
use Rattle.route_law.{specs.RouteEvidence.{HoldsOfRoute, IsRouteEvidence}, specs.RoutingPrograms.{route_rows, route_bound, route_slack, IsCarrying, IsRouteColumn}, proofs.Packing.bound_nonneg}

module _ (g : Graph) (demands : List Demand) (caps : Caps) where
  -- a bound that is too wide
  pub number_evidence : (row : ℕ) (names : List RouteColumn) → row < route_rows g demands → IsWide (route_bound g demands caps row)
      → AreNames (route_rows g demands) (slack_basis (route_slack g)) names → IsRouteEvidence g demands caps names (Number (route_slack g row))
  number_evidence row names inside wide named =
      let start = started (route_rows g demands) (route_bound g demands caps) (route_slack g) unit_vector (λ i. pos 1) (λ k. pos 0) (pos 1)
      (λ k l. bound_nonneg g demands caps k) (λ i k li lk. refl) (λ i l. refl) (λ k l. refl) refl in
      let reached = start_reached (route_rows g demands) (route_bound g demands caps) (route_slack g) (IsCarrying g demands) unit_vector (λ i. pos 1) (λ k. pos 0) (pos 1) start in
      record {
        basis = slack_basis (route_slack g);
        evidence = record { named = named; feasible = reached.here; holds = (λ j l. refl, inl (row, inside, refl, wide)) };
        reached = reached;
      }

  holds : (basis : ℕ → ColumnOf RouteColumn) (kind : WideKind RouteColumn)
      → HoldsKind (route_rows g demands) (route_bound g demands caps) (route_slack g) (IsRouteColumn g demands) basis kind → HoldsOfRoute g demands caps basis kind
  holds basis (Number name) h = h
  holds basis (Row i) h = h
  holds basis (Product i name) h = h
  holds basis (Sum i) h = h
  holds basis Common h = h
  holds basis Value h = h
  holds basis (Length link) h = absurd h
