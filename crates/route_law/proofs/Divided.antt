-- what holds of a state's program at capacities holds of it at their multiple
use Rattle.std.proofs.Common.{◌≡◌, ℕ, zero, suc, ◌-◌, ◌*◌, ◌<◌, List, [], ◌∷◌, length, map, slice_index, refl, sym, ap, ◌∙◌, arith, subst, ⊎_elim, ℤ, pos, ◌*ℤ◌, ◌<ℤ◌}
use Rattle.net_core.proofs.Library.{cases_lt}
use Rattle.plan_terms.specs.Terms.{RouteColumn, WideKind, Number, Row, Product, Sum, Common, Value, Length, Demand, Caps, Graph, sum_below}
use Rattle.simplex_law.{specs.Terms.{dot, ColumnOf, slack_basis}, proofs.Lemmas.moved_out}
use Rattle.route_law.{specs.Divisions.{caps_times, DividedAreWide, DividedArePriced}, specs.PricedLengths.ArePricedLengths, specs.RouteEvidence.{HasWideLength, HoldsOfRoute, IsRouteEvidence}, specs.RoutingPrograms.{scaled_need, total_scaled_need, route_rows, route_bound, route_slack, IsRouteColumn}, proofs.Rows.{beside_first, beside_second}, proofs.Scaled.{lt_times, dot_scaled, feasible_scaled, best_scaled, best_back, reached_scaled, number_scaled, sum_scaled}}

pub index_times : (d : ℕ) (nums : List ℕ) (e : ℕ) → slice_index (map (λ n. d * n) nums) e ≡ d * slice_index nums e
index_times d [] e = omega arith
index_times d (n ∷ ns) zero = refl
index_times d (n ∷ ns) (suc e) = index_times d ns e

module _ (g : Graph) (demands : List Demand) (d : ℕ) (pd : 0 < d) (caps : Caps) where
  abbrev rows : ℕ
  rows = route_rows g demands

  abbrev under : ℕ → ℤ
  under = route_bound g demands caps

  abbrev over : ℕ → ℤ
  over = route_bound g demands (caps_times d caps)

  abbrev is_column : ColumnOf RouteColumn → Type 0
  is_column = IsRouteColumn g demands

  need_times : (k : ℕ) → scaled_need demands (caps_times d caps) k ≡ d * scaled_need demands caps k
  need_times k = out (slice_index (map (λ w. w.need) demands) k)
    where
      out : (n : ℕ) → n * (d * caps.scale) ≡ d * (n * caps.scale)
      out n = omega arith

  same : (k : ℕ) → k < rows → over k ≡ pos d *ℤ under k
  same k l = ⊎_elim
      (λ first. beside_first n (λ e. pos (slice_index (caps_times d caps).nums e)) (λ i. pos (scaled_need demands (caps_times d caps) i)) k first
      ∙ (ap pos (index_times d caps.nums k) ∙ sym (ap (λ x. pos d *ℤ x) (beside_first n (λ e. pos (slice_index caps.nums e)) (λ i. pos (scaled_need demands caps i)) k first))))
      (λ second. beside_second n (λ e. pos (slice_index (caps_times d caps).nums e)) (λ i. pos (scaled_need demands (caps_times d caps) i)) k second
      ∙ (ap pos (need_times (k - n)) ∙ sym (ap (λ x. pos d *ℤ x) (beside_second n (λ e. pos (slice_index caps.nums e)) (λ i. pos (scaled_need demands caps i)) k second))))
      (cases_lt k n)
    where
      n : ℕ
      n = length g.links

  needs_times : (n : ℕ) → sum_below n (scaled_need demands (caps_times d caps)) ≡ d * sum_below n (scaled_need demands caps)
  needs_times zero = omega arith
  needs_times (suc n) = omega (arith, needs_times n, need_times n)

  length_times : (basis : ℕ → ColumnOf RouteColumn) (e : ℕ) → HasWideLength g demands caps basis e → HasWideLength g demands (caps_times d caps) basis e
  length_times basis e h = record {
    duals = h.duals;
    den = h.den;
    best = best_scaled rows under over (route_slack g) is_column d pd same basis h.duals h.den h.best;
    below =
        let left : dot rows h.duals over ≡ pos d *ℤ dot rows h.duals under = dot_scaled rows under over (route_slack g) is_column d pd same h.duals in
        let right : h.den *ℤ pos (total_scaled_need demands (caps_times d caps)) ≡ pos d *ℤ (h.den *ℤ pos (total_scaled_need demands caps)) =
        ap (λ x. h.den *ℤ pos x) (needs_times (length demands)) ∙ moved_out h.den (pos d) (pos (total_scaled_need demands caps)) in
        subst (λ x. x <ℤ (h.den *ℤ pos (total_scaled_need demands (caps_times d caps)))) (sym left)
        (subst (λ y. (pos d *ℤ dot rows h.duals under) <ℤ y) (sym right) (lt_times d (dot rows h.duals under) (h.den *ℤ pos (total_scaled_need demands caps)) pd h.below));
    lengths = h.lengths;
    prices = h.prices;
    wide = h.wide;
  }

  holds_times : (basis : ℕ → ColumnOf RouteColumn) (kind : WideKind RouteColumn) → HoldsOfRoute g demands caps basis kind → HoldsOfRoute g demands (caps_times d caps) basis kind
  holds_times basis (Number name) h = number_scaled rows under over (route_slack g) is_column d pd same basis name h
  holds_times basis (Row i) h = h
  holds_times basis (Product i name) h = h
  holds_times basis (Sum i) h = sum_scaled rows under over (route_slack g) is_column d pd same basis i h
  holds_times basis Common h = h
  holds_times basis Value h = absurd h
  holds_times basis (Length link) h = length_times basis link.0 h

  -- evidence at capacities is evidence at their multiple
  evidence_times : (names : List RouteColumn) (kind : WideKind RouteColumn) → IsRouteEvidence g demands caps names kind → IsRouteEvidence g demands (caps_times d caps) names kind
  evidence_times names kind h = record {
    basis = h.basis;
    evidence = record {
      named = h.evidence.named;
      feasible = feasible_scaled rows under over (route_slack g) is_column d pd same h.basis h.evidence.feasible;
      holds = holds_times h.basis kind h.evidence.holds;
    };
    reached = reached_scaled rows under over (route_slack g) is_column d pd same (slack_basis (route_slack g)) h.basis h.reached;
  }

  -- lengths are priced at the multiple exactly where they are priced
  priced_times : (lengths : List ℕ) → ArePricedLengths g demands caps lengths → ArePricedLengths g demands (caps_times d caps) lengths
  priced_times lengths p = record { basis = p.basis; duals = p.duals; den = p.den; best = best_scaled rows under over (route_slack g) is_column d pd same p.basis p.duals p.den p.best; prices = p.prices }

  priced_over : (lengths : List ℕ) → ArePricedLengths g demands (caps_times d caps) lengths → ArePricedLengths g demands caps lengths
  priced_over lengths p = record { basis = p.basis; duals = p.duals; den = p.den; best = best_back rows under over (route_slack g) is_column d pd same p.basis p.duals p.den p.best; prices = p.prices }

pub divided_are_wide : DividedAreWide
divided_are_wide g demands d caps basis kind pd h = evidence_times g demands d pd caps basis kind h

pub divided_are_priced : DividedArePriced
divided_are_priced g demands d caps lengths pd = (priced_times g demands d pd caps lengths, priced_over g demands d pd caps lengths)
