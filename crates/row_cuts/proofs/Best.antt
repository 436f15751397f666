-- the exchanged basis is best where bounds are what its columns take together, and its prices are the row
use Rattle.std.proofs.Common.{◌≡◌, ℕ, ◌+◌, ◌-◌, ◌<◌, List, Some, length, refl, sym, ap, ◌∙◌, arith, subst, inl, inr, ⊎_elim, slice_get, ℤ, pos, ◌-ℤ◌, ◌*ℤ◌, ◌<ℤ◌, ◌≤ℤ◌}
use Rattle.net_core.proofs.Library.{ints, cases_lt, *ℤ-zero, slice_get_within}
use Rattle.plan_terms.specs.Terms.{RouteColumn, LinkSlack, DemandSlack, Carry, LinkId, Demand, Graph, Caps}
use Rattle.simplex_law.{specs.Terms.{dot, int_sum, unit_vector, ColumnOf, IsRow, IsBest, IsFeasible}, proofs.Lemmas.{minus_left, none_gains, dot-same, sum-same, sum-times, sum-swapped, unit-other, sum-unit, weights}}
use Rattle.key_law.{specs.Keys.{IsBlockRow, IsSpread, key_part, block, left_target, key}, specs.KeyRows.{full_kept, full_prices, full_key, key_nums}, proofs.Kept.{inverse_full, prices_full, key_full, price_product}, proofs.Owned.{owned_product, owned_target}, proofs.Lemmas.is_spread}
use Rattle.route_law.{specs.Terms.{IsCarrying, IsRouteColumn, AreLinkPrices, route_rows, route_bound, route_slack, ArePricedLengths}, proofs.Lemmas.{beside_first, beside_after}}
use Rattle.row_cuts.{specs.KeyPaths.{on_path, row_along, beyond_key, IsBesideKeys, IsPathBasis, IsPathOf, HasShortestKeys}, proofs.Columns.{named, name_entry, name_gain, left_gain, path_link, path_demand, left_gain_is}, proofs.Exchanged.{same_place, same_roles, name_at, basis_at, key_name, at_block, block_there, block_named, key_columns, keys_are, row_at_entering, new_row, new_den, new_rows, new_over}}

-- a row of the inverse takes its denominator of bounds that are what the columns take together
value_is : (n : ℕ) (columns : ℕ → ℕ → ℤ) (bound nums : ℕ → ℤ) (den : ℤ) (i : ℕ) → i < n → IsRow n columns (unit_vector i) nums den
    → ((k : ℕ) → k < n → bound k ≡ int_sum n (λ j. columns j k)) → dot n nums bound ≡ den
value_is n columns bound nums den i li row is =
    sum-same n _ (λ k. int_sum n (λ j. nums k *ℤ columns j k)) (λ k l. ap (λ x. nums k *ℤ x) (is k l) ∙ sym (sum-times n (nums k) (λ j. columns j k)))
    ∙ (sum-swapped n n (λ k j. nums k *ℤ columns j k)
    ∙ (sum-same n _ (λ j. den *ℤ unit_vector i j) (λ j l. row j l)
    ∙ sum-unit n i (λ j. den) li))

module _ (g : Graph) (ds : List Demand) (caps : Caps) (keys : ℕ → List LinkId) (columns : ℕ → RouteColumn) (rows : ℕ → ℕ → ℤ) (dens : ℕ → ℤ) (r top : ℕ)
    (lr : r < length g.links) (lt : top < length ds) (h : IsPathBasis g ds keys columns rows dens) (s : HasShortestKeys g ds keys (rows r))
    (most : (k : ℕ) → k < length ds → row_along (length g.links) (rows r) (keys k) ≤ℤ row_along (length g.links) (rows r) (keys top))
    (needed : (k : ℕ) (d : Demand) → slice_get ds k ≡ Some d → 0 < d.need)
    (bound_is : (k : ℕ) → k < route_rows g ds → route_bound g ds caps k ≡ int_sum (route_rows g ds) (λ j. name_entry g (name_at g keys columns r top j) k)) where
  abbrev links : ℕ
  links = length g.links

  abbrev demands : ℕ
  demands = length ds

  abbrev names : ℕ → RouteColumn
  names = name_at g keys columns r top

  abbrev basis : ℕ → ColumnOf RouteColumn
  basis = basis_at g keys columns r top

  abbrev most_long : ℤ
  most_long = row_along links (rows r) (keys top)

  abbrev are_keys : (d e : ℕ) → d < demands → e < demands → (key links demands basis same_place d).entry (links + e) ≡ unit_vector d e
  are_keys = keys_are g ds keys columns rows dens r top lr lt h

  some_length : pos 0 <ℤ most_long
  some_length = omega (arith, ints, s.longer, most s.some s.inside)

  -- each column is one of the program
  is_slack : (e k : ℕ) (name : RouteColumn) → k < route_rows g ds → name ≡ route_slack g k → name_gain name ≡ pos 0 → ((i : ℕ) → name_entry g name i ≡ unit_vector k i) → IsRouteColumn g ds (named g name)
  is_slack e k name l same none are = inr (record { row = k; inside = l; named = same; gain = none; entry = λ i li. are i })

  is_carried : (k : ℕ) (path : List LinkId) → IsPathOf g ds k path → IsRouteColumn g ds (named g (Carry k path))
  is_carried k path is = inl (record {
    place = k;
    demand = is.demand;
    at = is.at;
    needed = needed k is.demand is.at;
    path = path;
    leads = is.leads;
    named = refl;
    gain = refl;
    entry = λ i li. refl;
  })

  link_name_is : (link : LinkId) → LinkSlack link ≡ LinkSlack (record { 0 = link.0 })
  link_name_is link = refl

  is_beside : (c : RouteColumn) → IsBesideKeys g ds c → IsRouteColumn g ds (named g c)
  is_beside (LinkSlack link) is = is_slack 0 link.0 (LinkSlack link) (omega (arith, is))
      (link_name_is link ∙ sym (beside_first links (λ e. LinkSlack (record { 0 = e })) (λ k. DemandSlack k) link.0 is)) refl (λ i. refl)
  is_beside (DemandSlack d) is = absurd is
  is_beside (Carry k path) is = is_carried k path is

  columns_are : (j : ℕ) → j < route_rows g ds → IsRouteColumn g ds (basis j)
  columns_are j l = ⊎_elim
      (λ lj. at_block g ds keys columns rows dens r top lr lt h (λ name. IsRouteColumn g ds (named g name)) j lj
      (λ e. is_slack 0 (links + top) (DemandSlack top) (omega (arith, lt)) (sym (beside_after links (λ e. LinkSlack (record { 0 = e })) (λ k. DemandSlack k) top)) refl (λ i. refl))
      (λ ne. is_beside (columns j) (h.beside j lj)))
      (λ ge. let d : ℕ = j - links in
      let e : links + d ≡ j = omega (arith, ge) in
      let ld : d < demands = omega (arith, ge, l) in
      subst (λ x. IsRouteColumn g ds (basis x)) e
      (subst (λ name. IsRouteColumn g ds (named g name)) (sym (key_name g ds keys columns rows dens r top lr lt h d)) (is_carried d (keys d) (h.lead d ld))))
      (cases_lt j links)

  -- a row of the inverse with a value of 0 or more
  abbrev HasRow : ℕ → Type 0
  HasRow i = (nums : ℕ → ℤ) × (den : ℤ) × ((pos 0 <ℤ den) × IsRow (route_rows g ds) (λ j. (basis j).entry) (unit_vector i) nums den) × (pos 0 ≤ℤ dot (route_rows g ds) nums (route_bound g ds caps))

  of_row : (i : ℕ) (nums : ℕ → ℤ) (den : ℤ) → i < route_rows g ds → pos 0 <ℤ den → IsRow (route_rows g ds) (λ j. (basis j).entry) (unit_vector i) nums den → HasRow i
  of_row i nums den li over row = (
    nums,
    den,
    (over, row),
    subst (λ x. pos 0 ≤ℤ x) (sym (value_is (route_rows g ds) (λ j. (basis j).entry) (route_bound g ds caps) nums den i li row bound_is)) (omega (arith, ints, over)),
  )

  abbrev nums : ℕ → ℕ → ℤ
  nums = new_row g ds keys columns rows dens r top lr lt h

  abbrev dens_of : ℕ → ℤ
  dens_of = new_den g ds keys columns rows dens r top lr lt h

  block_rows : (i : ℕ) → i < links → IsRow links (block links demands basis same_place) (unit_vector i) (nums i) (dens_of i)
  block_rows = new_rows g ds keys columns rows dens r top lr lt h

  link_row : (i : ℕ) → i < links → HasRow i
  link_row i li = of_row i (full_kept links demands basis same_place (nums i) (dens_of i)) (dens_of i) (omega (arith, li)) (new_over g ds keys columns rows dens r top lr lt h some_length i li)
      (inverse_full links demands basis same_place same_place (same_roles (links + demands)) are_keys i (nums i) (dens_of i) li (block_rows i li))

  key_row : (d : ℕ) → d < demands → HasRow (links + d)
  key_row d ld =
      let w = weights links dens_of (new_over g ds keys columns rows dens r top lr lt h some_length) in
      of_row (links + d) (full_key links demands basis same_place d (key_nums links demands basis same_place nums w.0 d) w.1) w.1 (omega (arith, ld)) w.2
      (key_full links demands basis same_place same_place (same_roles (links + demands)) are_keys nums dens_of w.0 w.1 block_rows d ld
      (λ j lj. ap (λ x. (basis j).entry (links + d) *ℤ x) (w.3 j lj)))

  filled : (i : ℕ) → i < route_rows g ds → HasRow i
  filled i l = ⊎_elim
      (λ li. link_row i li)
      (λ ge. let e : links + (i - links) ≡ i = omega (arith, ge) in subst HasRow e (key_row (i - links) (omega (arith, ge, l))))
      (cases_lt i links)

  feasible : IsFeasible (route_rows g ds) (route_bound g ds caps) (IsRouteColumn g ds) basis
  feasible = record { columns = columns_are; filled = filled }

  -- the prices
  key_gains : (d : ℕ) → (key links demands basis same_place d).gain ≡ pos 1
  key_gains d = ap name_gain (key_name g ds keys columns rows dens r top lr lt h d)

  no_left_gain : (c : RouteColumn) → IsBesideKeys g ds c → left_gain c ≡ pos 0
  no_left_gain (LinkSlack link) is = refl
  no_left_gain (DemandSlack d) is = absurd is
  no_left_gain (Carry k path) is = refl

  nothing_of : (x : ℤ) {y : ℤ} → y ≡ pos 0 → x *ℤ y ≡ pos 0
  nothing_of x e = ap (λ z. x *ℤ z) e ∙ *ℤ-zero x

  prices_at : (j : ℕ) → j < links → dot links (rows r) (beyond_key keys (names j)) ≡ most_long *ℤ left_gain (names j)
  prices_at j lj = at_block g ds keys columns rows dens r top lr lt h (λ name. dot links (rows r) (beyond_key keys name) ≡ most_long *ℤ left_gain name) j lj
      (λ e. row_at_entering g ds keys columns rows dens r top lr lt h ∙ minus most_long)
      (λ ne. h.inverse r j lr lj ∙ (nothing_of (dens r) (unit-other r j ne) ∙ sym (nothing_of most_long (no_left_gain (columns j) (h.beside j lj)))))
    where
      minus : (x : ℤ) → pos 0 -ℤ x ≡ x *ℤ (pos 0 -ℤ pos 1)
      minus x = omega (arith, ints, minus_left (pos 0) (pos 1) x)

  objective_block : IsBlockRow links demands basis same_place (λ j. (basis j).gain) (rows r) most_long
  objective_block j lj =
      dot-same links (rows r) (rows r) (block links demands basis same_place j) (beyond_key keys (names j)) (λ k l. refl)
      (λ k l. block_named g ds keys columns rows dens r top lr lt h j k lj l)
      ∙ (prices_at j lj ∙ ap (λ x. most_long *ℤ x) (sym (left_gain_is g demands keys (key_part links demands basis same_place) (key_columns g ds keys columns rows dens r top lr lt h)
      (λ d. (key links demands basis same_place d).gain) (names j) key_gains (block_there g ds keys columns rows dens r top lr lt h j lj))))

  abbrev prices : ℕ → ℤ
  prices = full_prices links demands basis same_place (rows r) most_long

  objective : IsRow (route_rows g ds) (λ j. (basis j).entry) (λ j. (basis j).gain) prices most_long
  objective = prices_full links demands basis same_place same_place (same_roles (links + demands)) are_keys (rows r) most_long objective_block

  abbrev spread_is : IsSpread links demands (key_part links demands basis same_place) (λ d. (key links demands basis same_place d).gain) (rows r) most_long prices
  spread_is = is_spread links demands (key_part links demands basis same_place) (λ d. (key links demands basis same_place d).gain) (rows r) most_long

  -- what the row takes of a key
  key_length : (d : ℕ) → d < demands → dot links (rows r) (key_part links demands basis same_place d) ≡ row_along links (rows r) (keys d)
  key_length d ld = dot-same links (rows r) (rows r) (key_part links demands basis same_place d) (on_path (keys d)) (λ k l. refl) (λ k l. key_columns g ds keys columns rows dens r top lr lt h d k ld l)

  key_price : (d : ℕ) → d < demands → prices (links + d) ≡ most_long -ℤ row_along links (rows r) (keys d)
  key_price d ld = spread_is.demand d ld ∙ both (ap (λ x. most_long *ℤ x) (key_gains d) ∙ times_one most_long) (key_length d ld)
    where
      both : {x y s t : ℤ} → x ≡ y → s ≡ t → x -ℤ s ≡ y -ℤ t
      both {x} {y} {s} {t} e f = omega (arith, ints, e, f)

      times_one : (x : ℤ) → x *ℤ pos 1 ≡ x
      times_one x = omega (arith, ints)

  prices_positive : (k : ℕ) → k < route_rows g ds → pos 0 ≤ℤ prices k
  prices_positive k l = ⊎_elim
      (λ lk. subst (λ x. pos 0 ≤ℤ x) (sym (spread_is.link k lk)) (s.positive k lk))
      (λ ge. let e : links + (k - links) ≡ k = omega (arith, ge) in
      let ld : k - links < demands = omega (arith, ge, l) in
      subst (λ i. pos 0 ≤ℤ prices i) e (subst (λ x. pos 0 ≤ℤ x) (sym (key_price (k - links) ld)) (omega (arith, ints, most (k - links) ld))))
      (cases_lt k links)

  no_gain : (c : ColumnOf RouteColumn) → IsCarrying g ds c → dot (route_rows g ds) prices c.entry <ℤ (most_long *ℤ c.gain) → ⊥
  no_gain c is gains =
      let d = is.place in
      let ld : d < demands = slice_get_within ds d is.demand is.at in
      let owned : (e : ℕ) → e < demands → c.entry (links + e) ≡ unit_vector d e = λ e le. is.entry (links + e) (omega (arith, le)) ∙ path_demand g demands keys d is.path e in
      let product = price_product links demands basis same_place same_place (same_roles (links + demands)) are_keys (rows r) most_long c in
      let parts = owned_product links demands (key_part links demands basis same_place) c.entry d ld owned (rows r) in
      let along : dot links (rows r) c.entry ≡ row_along links (rows r) is.path =
      dot-same links (rows r) (rows r) c.entry (on_path is.path) (λ k l. refl) (λ k l. is.entry k (omega (arith, l)) ∙ path_link g demands keys d is.path k l) in
      let target = owned_target links demands (key_part links demands basis same_place) c.entry d ld owned (λ e. (key links demands basis same_place e).gain) c.gain in
      let none : most_long *ℤ left_target links demands (λ e. (key links demands basis same_place e).gain) c.entry c.gain ≡ pos 0 =
      nothing_of most_long (target ∙ both is.gain (key_gains d)) in
      let short = s.shortest d is.path (record { demand = is.demand; at = is.at; leads = is.leads }) in
      at_least (dot (route_rows g ds) prices c.entry) (most_long *ℤ c.gain) product none parts along (key_length d ld) short gains
    where
      both : {x y : ℤ} → x ≡ pos 1 → y ≡ pos 1 → x -ℤ y ≡ pos 0
      both {x} {y} e f = omega (arith, ints, e, f)

      at_least : (x y : ℤ) {p q t u v w : ℤ} → x -ℤ y ≡ p -ℤ q → q ≡ pos 0 → p ≡ t -ℤ u → t ≡ v → u ≡ w → w ≤ℤ v → x <ℤ y → ⊥
      at_least x y {p} {q} {t} {u} {v} {w} a b c d e f g = absurd (omega (arith, ints, a, b, c, d, e, f, g))

  best : IsBest (route_rows g ds) (route_bound g ds caps) (IsRouteColumn g ds) basis prices most_long
  best = record {
    feasible = feasible;
    objective = (some_length, objective);
    none = none_gains (route_rows g ds) (route_bound g ds caps) (route_slack g) (IsCarrying g ds) prices most_long prices_positive no_gain;
  }

  pub priced_there : (lengths : List ℕ) → AreLinkPrices links (rows r) lengths → ArePricedLengths g ds caps lengths
  priced_there lengths p = record {
    basis = basis;
    duals = prices;
    den = most_long;
    best = best;
    prices = record {
      count = p.count;
      factor = p.factor;
      positive = p.positive;
      same = λ e l. spread_is.link e l ∙ p.same e l;
      lowest = p.lowest;
    };
  }
