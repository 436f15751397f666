-- link prices of an optimum as lengths
use Rattle.std.proofs.Common.{◌≡◌, ◌≢◌, ℕ, zero, suc, ◌*◌, ◌/◌, ◌<◌, ◌≤◌, ◌^◌, List, All, get_or, length, slice_index, refl, sym, ap, ◌∙◌, subst, arith, ℤ, pos}
use Rattle.net_core.proofs.Library.{◌∣◌, get_or-map, length-map, slice_get_within, div-mul_cancel, mul-dvd-mul_right, dvd_of_mul-dvd-mul_right, eq-one_of_dvd-one, zero-dvd}
use Rattle.checked_fraction.specs.Terms.{num}
use Rattle.plan_terms.specs.Terms.{RouteColumn, Length, LinkId, RouteTask, Graph, graph_of, IsGreatestDivisor, AreZero}
use Rattle.simplex_core.specs.declared.optimum.Optimum.{Optimum}
use Rattle.route_law.{specs.Terms.{AreLinkPrices, IsRouteEvidence, AreJoined}, proofs.Lemmas.some_price}
use Rattle.flow_router.{specs.inner.Flowing.LeavesNeed, specs.inner.Lengths.{AreLinkCosts, each_over}, specs.inner.Solutions.{ArePricesBelow, IsSolution}, proofs.Answering.optimum_below}

pub link_costs : (n m : ℕ) (nums others : List ℤ) (prices : List ℕ) → n ≡ m → others ≡ nums → AreLinkCosts n (num others) prices → AreLinkCosts m (num nums) prices
link_costs n m nums others prices count same costs = subst (λ x. AreLinkCosts x (num nums) prices) count (subst (λ xs. AreLinkCosts n (num xs) prices) same costs)

positive : (n : ℕ) → n ≢ 0 → 0 < n
positive zero ne = absurd (ne refl)
positive (suc n) ne = omega arith

-- the prices over their greatest common divisor
pub whole_prices : (n : ℕ) (duals : ℕ → ℤ) (prices : List ℕ) (common : ℕ) → AreLinkCosts n duals prices → IsGreatestDivisor prices common → common ≢ 0 → AreLinkPrices n duals (each_over common prices)
whole_prices n duals prices common costs divisor some = record {
  count = length-map prices (λ p. p / common) ∙ costs.count;
  factor = common;
  positive = positive common some;
  same = λ e l.
      let inside : e < length prices = subst (λ m. e < m) (sym costs.count) l in
      costs.same e l ∙ ap pos (sym (ap (λ x. common * x) (get_or-map (λ p. p / common) prices e 0 0 inside) ∙ (swap common (slice_index prices e / common) ∙ div-mul_cancel common (divisor.divides e 0 inside))));
  lowest = λ d all.
      let up : All (λ p. d * common ∣ p) prices = λ e x l.
      let here : d ∣ get_or prices e x / common = subst (λ q. d ∣ q) (get_or-map (λ p. p / common) prices e x 0 l) (all e 0 (subst (λ m. e < m) (sym (length-map prices (λ p. p / common))) l)) in
      subst (λ q. d * common ∣ q) (div-mul_cancel common (divisor.divides e x l)) (mul-dvd-mul_right d here common) in
      eq-one_of_dvd-one (dvd_of_mul-dvd-mul_right d (positive common some) (subst (λ q. d * common ∣ q) (once common) (divisor.greatest (d * common) up)));
}
  where
    swap : (a b : ℕ) → a * b ≡ b * a
    swap a b = omega arith

    once : (a : ℕ) → a ≡ 1 * a
    once a = omega arith

zero_prices : (g : Graph) (prices : List ℕ) (common : ℕ) → length prices ≡ length g.links → IsGreatestDivisor prices common → common ≡ 0 → AreZero g prices
zero_prices g prices common count divisor none e survives =
    zero-dvd.0 (subst (λ c. c ∣ slice_index prices e) none (divisor.divides e 0 (subst (λ m. e < m) (sym count) (slice_get_within g.links e survives.link survives.at))))

module _ (t : RouteTask) (best : Optimum RouteColumn) (s : IsSolution t best) (left : LeavesNeed best.basis best.values) (joined : AreJoined (graph_of t.graph) t.demands.now) (prices : List ℕ) (common : ℕ)
    (costs : AreLinkCosts (length t.graph.net.now.links) (num best.duals.nums) prices) (divisor : IsGreatestDivisor prices common) where
  -- some price isn't 0
  pub prices_some : common ≡ 0 → ⊥
  prices_some none =
      some_price (graph_of t.graph) t.demands.now t.caps.now s.basis (num best.duals.nums) best.duals.den s.optimum.best 1 prices (λ e l. costs.same e l ∙ ap pos (once (slice_index prices e))) joined
      (zero_prices (graph_of t.graph) prices common costs.count divisor none) (optimum_below (graph_of t.graph) t.demands.now t.caps.now best s left)
    where
      once : (a : ℕ) → a ≡ 1 * a
      once a = omega arith

  pub prices_below : (lengths : List ℕ) → common ≢ 0 → lengths ≡ each_over common prices → ArePricesBelow t lengths
  prices_below lengths some is = record {
    joined = joined;
    priced = record {
      basis = s.basis;
      duals = num best.duals.nums;
      den = best.duals.den;
      best = s.optimum.best;
      prices = subst (λ ls. AreLinkPrices (length t.graph.net.now.links) (num best.duals.nums) ls) (sym is) (whole_prices (length t.graph.net.now.links) (num best.duals.nums) prices common costs divisor some);
    };
    below = optimum_below (graph_of t.graph) t.demands.now t.caps.now best s left;
  }

  pub price_long : (link : LinkId) → common ≢ 0 → 2 ^ 32 ≤ slice_index (each_over common prices) link.0 → IsRouteEvidence (graph_of t.graph) t.demands.now t.caps.now best.basis (Length link)
  price_long link some wide = record {
    basis = s.basis;
    evidence = record {
      named = s.names;
      feasible = s.optimum.best.feasible;
      holds = record {
        duals = num best.duals.nums;
        den = best.duals.den;
        best = s.optimum.best;
        below = optimum_below (graph_of t.graph) t.demands.now t.caps.now best s left;
        lengths = each_over common prices;
        prices = whole_prices (length t.graph.net.now.links) (num best.duals.nums) prices common costs divisor some;
        wide = wide;
      };
    };
    reached = s.reached;
  }
