-- the network with as many thousandths of each demand, and as much of each link, as columns of the exchanged basis take
use Rattle.std.{proofs.Common.{◌≡◌, ℕ, ◌+◌, ◌-◌, ◌*◌, ◌<◌, ◌≤◌, ◌^◌, List, [], Some, All, length, map, get_or, slice_get, slice_index, sym, ap, ◌∙◌, arith, subst, ℤ, pos}, proofs.lemmas.List.Sums.sum_by-le}
use Rattle.net_core.proofs.Library.{range_with_len, All-get_or, All-from_get_or, length-map-range_with_len, get_or-map-range_with_len, get_or-map, get_or_from_slice_get, slice_get-get_or, slice_get_within}
use Rattle.plan_terms.specs.Terms.{RouteColumn, LinkSlack, DemandSlack, Carry, Demand, LinkId, Caps, AreDemands, IsDemand, Graph, Joins, IsPath}
use Rattle.simplex_law.specs.Terms.{int_sum, put}
use Rattle.route_law.{specs.Terms.{route_rows, route_bound, scaled_need}, proofs.Lemmas.{beside_after, beside_each}}
use Rattle.row_cuts.{specs.KeyPaths.{row_along, IsPathOf, IsBesideKeys, IsPathBasis, HasShortestKeys}, specs.Laws.RowsArePriced, proofs.Columns.name_entry, proofs.Counts.{standing, standing_is, standing_most, some_standing, greatest_place}, proofs.Exchanged.name_at, proofs.Best.priced_there}

abbrev no_demand : Demand
no_demand = record { name = []; from = record { 0 = 0 }; to = record { 0 = 0 }; need = 0 }

-- a demand with another need
abbrev with_need : Demand → ℕ → Demand
with_need d need = record { name = d.name; from = d.from; to = d.to; need = need }

abbrev new_demand : List Demand → (ℕ → ℕ) → ℕ → Demand
new_demand demands need k = with_need (get_or demands k no_demand) (need k)

abbrev new_demands : List Demand → (ℕ → ℕ) → List Demand
new_demands demands need = map (new_demand demands need) (range_with_len 0 (length demands))

module _ (demands : List Demand) (need : ℕ → ℕ) where
  count_same : length (new_demands demands need) ≡ length demands
  count_same = length-map-range_with_len (new_demand demands need) 0 (length demands)

  new_at : (k : ℕ) (d : Demand) → k < length demands → get_or (new_demands demands need) k d ≡ new_demand demands need k
  new_at k d l = get_or-map-range_with_len (new_demand demands need) 0 (length demands) k k d l (omega arith)

  new_get : (k : ℕ) → k < length demands → slice_get (new_demands demands need) k ≡ Some (new_demand demands need k)
  new_get k l = slice_get-get_or (new_demands demands need) k no_demand (omega (arith, count_same, l)) ∙ ap Some (new_at k no_demand l)

  module _ (g : Graph) where
    -- paths of a demand are those of the demand with its new need
    to_new : (k : ℕ) (path : List LinkId) → IsPathOf g demands k path → IsPathOf g (new_demands demands need) k path
    to_new k path p = record {
      demand = new_demand demands need k;
      at = new_get k (slice_get_within demands k p.demand p.at);
      leads = subst (λ (d : Demand). IsPath (Joins g) d.from.0 d.to.0 path) (sym (get_or_from_slice_get demands k p.demand no_demand p.at)) p.leads;
    }

    from_new : (k : ℕ) (path : List LinkId) → IsPathOf g (new_demands demands need) k path → IsPathOf g demands k path
    from_new k path p =
        let l : k < length demands = subst (λ n. k < n) count_same (slice_get_within (new_demands demands need) k p.demand p.at) in
        record {
          demand = get_or demands k no_demand;
          at = slice_get-get_or demands k no_demand l;
          leads = subst (λ (d : Demand). IsPath (Joins g) d.from.0 d.to.0 path) (sym (get_or_from_slice_get (new_demands demands need) k p.demand no_demand p.at) ∙ new_at k no_demand l) p.leads;
        }

    beside_new : (c : RouteColumn) → IsBesideKeys g demands c → IsBesideKeys g (new_demands demands need) c
    beside_new (LinkSlack link) is = is
    beside_new (DemandSlack d) is = is
    beside_new (Carry k path) is = to_new k path is

    basis_new : (keys : ℕ → List LinkId) (columns : ℕ → RouteColumn) (rows : ℕ → ℕ → ℤ) (dens : ℕ → ℤ) → IsPathBasis g demands keys columns rows dens → IsPathBasis g (new_demands demands need) keys columns rows dens
    basis_new keys columns rows dens h = record {
      lead = λ k l. to_new k (keys k) (h.lead k (omega (arith, l, count_same)));
      beside = λ j l. beside_new (columns j) (h.beside j l);
      over = h.over;
      inverse = h.inverse;
    }

    shortest_new : (keys : ℕ → List LinkId) (row : ℕ → ℤ) → HasShortestKeys g demands keys row → HasShortestKeys g (new_demands demands need) keys row
    shortest_new keys row s = record {
      positive = s.positive;
      shortest = λ k path p. s.shortest k path (from_new k path p);
      some = s.some;
      inside = omega (arith, count_same, s.inside);
      longer = s.longer;
    }

  needed_new : ((k : ℕ) → k < length demands → 0 < need k) → (k : ℕ) (d : Demand) → slice_get (new_demands demands need) k ≡ Some d → 0 < d.need
  needed_new some k d at =
      let l : k < length demands = subst (λ n. k < n) count_same (slice_get_within (new_demands demands need) k d at) in
      subst (λ (x : Demand). 0 < x.need) (sym (new_at k no_demand l) ∙ get_or_from_slice_get (new_demands demands need) k d no_demand at) (some k l)

  -- new needs that are low keep all limits
  demands_new : (n : ℕ) → AreDemands n demands → ((k : ℕ) → need k ≤ 4096) → AreDemands n (new_demands demands need)
  demands_new n are low = record {
    few = omega (arith, count_same, are.few);
    different = λ i j d ij lj same.
        let inside : j < length demands = omega (arith, count_same, lj) in
        are.different i j no_demand ij inside
        (ap (λ (x : Demand). x.name) (sym (new_at i d (omega (arith, ij, inside)))) ∙ (same ∙ ap (λ (x : Demand). x.name) (new_at j d inside)));
    each = All-from_get_or (IsDemand n) (new_demands demands need) no_demand (λ i l.
        let inside : i < length demands = omega (arith, count_same, l) in
        let old : IsDemand n (get_or demands i no_demand) = All-get_or (IsDemand n) demands i no_demand inside are.each in
        subst (IsDemand n) (sym (new_at i no_demand inside))
        (record { from_known = old.from_known; to_known = old.to_known; different = old.different; need = omega (arith, low i) }));
    total = omega (
      arith,
      count_same,
      are.few,
      sum_by-le (λ (d : Demand). d.need) 4096 (new_demands demands need)
          (All-from_get_or (λ (d : Demand). d.need ≤ 4096) (new_demands demands need) no_demand (λ i l.
          subst (λ (d : Demand). d.need ≤ 4096) (sym (new_at i no_demand (omega (arith, count_same, l)))) (low i))),
    );
  }

module _ (g : Graph) (demands : List Demand) (keys : ℕ → List LinkId) (columns : ℕ → RouteColumn) (r top : ℕ) where
  abbrev names : ℕ → RouteColumn
  names = name_at g keys columns r top

  -- how many columns are in a row
  abbrev taken : ℕ → ℕ
  taken = standing g names (length g.links + length demands)

  abbrev needs : ℕ → ℕ
  needs k = taken (length g.links + k)

  abbrev news : List Demand
  news = new_demands demands needs

  abbrev caps : Caps
  caps = record { scale = 1; nums = map taken (range_with_len 0 (length g.links)) }

  nums_count : length caps.nums ≡ length g.links
  nums_count = length-map-range_with_len taken 0 (length g.links)

  num_at : (e : ℕ) → e < length g.links → slice_index caps.nums e ≡ taken e
  num_at e l = get_or-map-range_with_len taken 0 (length g.links) e e 0 l (omega arith)

  need_at : (k : ℕ) → k < length demands → scaled_need news caps k ≡ needs k
  need_at k l = times_one (slice_index (map (λ (d : Demand). d.need) news) k)
      ∙ (get_or-map (λ (d : Demand). d.need) news k no_demand 0 (omega (arith, count_same demands needs, l))
      ∙ ap (λ (d : Demand). d.need) (new_at demands needs k no_demand l))
    where
      times_one : (n : ℕ) → n * 1 ≡ n
      times_one n = omega arith

  bound_taken : (k : ℕ) → k < route_rows g news → route_bound g news caps k ≡ pos (taken k)
  bound_taken k l = beside_each (λ z. z ≡ pos (taken k)) (length g.links) (λ e. pos (slice_index caps.nums e)) (λ d. pos (scaled_need news caps d)) k
      (λ lk. ap pos (num_at k lk))
      (λ ge. ap pos (need_at (k - length g.links) (omega (arith, ge, l, count_same demands needs)) ∙ ap taken (back ge)))
    where
      back : {n k : ℕ} → n ≤ k → n + (k - n) ≡ k
      back {n} {k} ge = omega (arith, ge)

  bound_is : (k : ℕ) → k < route_rows g news → route_bound g news caps k ≡ int_sum (route_rows g news) (λ j. name_entry g (names j) k)
  bound_is k l = bound_taken k l ∙ (standing_is g names (length g.links + length demands) k
      ∙ ap (λ d. int_sum (length g.links + d) (λ j. name_entry g (names j) k)) (sym (count_same demands needs)))

  low : length g.links ≤ 256 → length demands ≤ 2048 → (k : ℕ) → taken k ≤ 4096
  low few_links few_demands k = omega (arith, few_links, few_demands, standing_most g names (length g.links + length demands) k)

  some_needed : (k : ℕ) → k < length demands → 0 < needs k
  some_needed k l = some_standing g names (length g.links + length demands) (length g.links + k) k (keys k) (omega (arith, l))
      (beside_after (length g.links) (put columns r (DemandSlack top)) (λ d. Carry d (keys d)) k)

  caps_low : length g.links ≤ 256 → length demands ≤ 2048 → All (λ n. n < 2 ^ 128) caps.nums
  caps_low few_links few_demands = All-from_get_or (λ n. n < 2 ^ 128) caps.nums 0 (λ i l.
      subst (λ n. n < 2 ^ 128) (sym (num_at i (omega (arith, l, nums_count)))) (omega (arith, low few_links few_demands i)))

pub rows_are_priced : RowsArePriced
rows_are_priced g demands keys columns rows dens r lengths network states listed are h lr s prices =
    let longest = greatest_place (length demands) (λ k. row_along (length g.links) (rows r) (keys k)) (omega (arith, s.inside)) in
    let top : ℕ = longest.0 in
    let count = count_same demands (needs g demands keys columns r top) in
    record {
      g = g;
      network = network;
      states = states;
      listed_state = listed;
      demands = news g demands keys columns r top;
      are_demands = demands_new demands (needs g demands keys columns r top) (length g.nodes) are (λ k. low g demands keys columns r top network.few_links are.few (length g.links + k));
      caps = caps g demands keys columns r top;
      scale = (omega arith, omega arith);
      nums = (nums_count g demands keys columns r top, caps_low g demands keys columns r top network.few_links are.few);
      priced = priced_there g (news g demands keys columns r top) (caps g demands keys columns r top) keys columns rows dens r top lr (omega (arith, longest.1, count))
          (basis_new demands (needs g demands keys columns r top) g keys columns rows dens h)
          (shortest_new demands (needs g demands keys columns r top) g keys (rows r) s)
          (λ k l. longest.2 k (omega (arith, l, count)))
          (needed_new demands (needs g demands keys columns r top) (some_needed g demands keys columns r top))
          (bound_is g demands keys columns r top)
          lengths prices;
    }
