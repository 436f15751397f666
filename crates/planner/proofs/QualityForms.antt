-- shares, capacities and routings are in form
use Rattle.std.proofs.Common.{ℕ, ◌+◌, ◌*◌, ◌^◌, ◌<◌, ◌≤◌, ⊎_elim, List, [], ◌∷◌, All, get_or, length, arith}
use Rattle.net_core.proofs.Library.{All-cons, All-contains, All-head, All-nil, All-tail, All-weaker, slice_get-get_or, slice_get_within}
use Rattle.plan_terms.{specs.Terms.{Demand, Link, Module, Caps, Flow, Routing, AreDemands, Graph, Joins, IsModule, IsNetwork, AreCounts, AreWithinLimits, capacities, IsFlow, IsUnitPair}, proofs.Lemmas.product_below}
use Rattle.module_prices.specs.declared.cheapest.UnitPair.{UnitPair}
use Rattle.plan_report.specs.Terms.{AreCapsInForm, IsFlowInForm, IsRoutingInForm, IsShareInForm, Share}
use Rattle.share_covers.{specs.Terms.IsRouted, specs.InstalledRoutes.installed_caps}
use Rattle.master_law.{specs.Terms.{AreUnitPairs, IsPairOfLink, share_capacities, share_caps}, proofs.Capacities.share_count}
use Rattle.module_choice.proofs.Pairs.{capacities_long}
use Rattle.planner.{proofs.BestBounds.lowest_small, proofs.InForm.{of_list, path_in_form}}

-- ---- routings

module _ (g : Graph) (demands : List Demand) (belong : AreDemands (length g.nodes) demands) (few : length g.links ≤ 256) where
  flow_form : (f : Flow) → f.num < 2 ^ 124 → IsFlow (Joins g) demands f → IsFlowInForm g.links demands f
  flow_form f low is = record {
    demand = slice_get_within demands f.demand is.of is.at;
    positive = is.positive;
    num = low;
    path = path_in_form g is.of.from.0 is.of.to.0 (of_list g demands belong f.demand is.of is.at).different f.path is.path;
  }

  pub routed_form : (caps : Caps) (r : Routing) → IsRouted g demands caps r → IsRoutingInForm g.links demands r
  routed_form caps r is = record {
    positive = is.carries.den;
    den = is.den_limit;
    few = let most = is.few in omega (arith, most, few, belong.few);
    flows = λ k d lt. flow_form (get_or r.flows k d) (is.nums_limit k d lt) (is.carries.flows k d lt);
  }

-- ---- capacities

-- a unit is no larger than a module
pair_small : (modules : List Module) (pair : UnitPair) → All IsModule modules → IsPairOfLink modules pair → pair.capacity < 2 ^ 40
pair_small modules pair sound is = ⊎_elim
    (λ none. omega (arith, none.1))
    (λ (u : IsUnitPair modules pair.capacity pair.cost).
    let m = All-contains IsModule modules u.cheapest sound u.least.one in
    let small = lowest_small u.cheapest.cost u.cheapest.capacity pair.cost pair.capacity m.carries u.lowest in
    omega (arith, small.1, m.capacity))
    is

pairs_small : (links : List Link) (pairs : List UnitPair) → All (λ l. All IsModule l.modules) links → AreUnitPairs links pairs → All (λ q. q.capacity < 2 ^ 40) pairs
pairs_small links pairs sound units k d lt =
    let none : Link = record { name = []; a = record { 0 = 0 }; b = record { 0 = 0 }; fixed = 0; setup = 0; modules = [] } in
    let inside : k < length links = omega (arith, lt, units.count) in
    pair_small (get_or links k none).modules (get_or pairs k d) (sound k none inside) (units.each k (get_or links k none) (get_or pairs k d) (slice_get-get_or links k none inside) (slice_get-get_or pairs k d lt))

share_low : (scale : ℕ) (links : List Link) (pairs : List UnitPair) (units : List ℕ) → scale < 2 ^ 62 → All (λ l. l.fixed < 2 ^ 40) links → All (λ q. q.capacity < 2 ^ 40) pairs → All (λ u. u < 2 ^ 62) units
    → All (λ n. n < 2 ^ 126) (share_capacities links pairs (record { scale = scale; units = units }))
share_low scale [] pairs units low fixed capacity unit = All-nil (λ n. n < 2 ^ 126)
share_low scale (l ∷ ls) [] units low fixed capacity unit = All-nil (λ n. n < 2 ^ 126)
share_low scale (l ∷ ls) (q ∷ qs) [] low fixed capacity unit = All-nil (λ n. n < 2 ^ 126)
share_low scale (l ∷ ls) (q ∷ qs) (u ∷ us) low fixed capacity unit =
    let one : l.fixed * scale < 2 ^ 40 * 2 ^ 62 = product_below l.fixed scale (2 ^ 40) (2 ^ 62) (All-head (λ (x : Link). x.fixed < 2 ^ 40) l ls fixed) (omega arith) low in
    let two : q.capacity * u < 2 ^ 40 * 2 ^ 62 = product_below q.capacity u (2 ^ 40) (2 ^ 62) (All-head (λ (x : UnitPair). x.capacity < 2 ^ 40) q qs capacity) (omega arith) (All-head (λ x. x < 2 ^ 62) u us unit) in
    All-cons (λ n. n < 2 ^ 126) (l.fixed * scale + q.capacity * u) (share_capacities ls qs (record { scale = scale; units = us })) (omega (arith, one, two))
    (share_low scale ls qs us low (All-tail (λ (x : Link). x.fixed < 2 ^ 40) l ls fixed) (All-tail (λ (x : UnitPair). x.capacity < 2 ^ 40) q qs capacity) (All-tail (λ x. x < 2 ^ 62) u us unit))

pub share_caps_form : (nodes : List (List ℕ)) (links : List Link) (pairs : List UnitPair) (share : Share) → IsNetwork nodes links → AreUnitPairs links pairs → IsShareInForm links share → AreCapsInForm links (share_caps links pairs share)
share_caps_form nodes links pairs share net units form = record {
  positive = form.positive;
  scale = form.scale;
  nums = record {
    long = share_count links pairs share units.count form.units.long;
    each = share_low share.scale links pairs share.units form.scale (λ k d lt. (net.sound k d lt).fixed) (pairs_small links pairs (λ k d lt. (net.sound k d lt).each) units) form.units.each;
  };
}

pub installed_form : (links : List Link) (counts : List (List ℕ)) → AreCounts links counts → AreWithinLimits links counts → AreCapsInForm links (installed_caps links counts)
installed_form links counts are limits = record {
  positive = omega arith;
  scale = omega arith;
  nums = record { long = capacities_long links counts are; each = All-weaker (λ n. n < 2 ^ 46) (λ n. n < 2 ^ 126) (λ n lt. omega (arith, lt)) (capacities links counts) limits.small };
}
