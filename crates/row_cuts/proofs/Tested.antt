-- what tests of keys and rows give
use Rattle.std.proofs.Common.{◌≡◌, ◌≢◌, ℕ, zero, suc, ◌*◌, ◌<◌, ◌≤◌, List, [], ◌∷◌, All, Bool, true, false, cond, length, slice_index, refl, sym, ap, ◌∙◌, arith, subst, ⊎_elim, eq-eqb, ne_eqb, ℤ, pos, ◌+ℤ◌, ◌-ℤ◌, ◌*ℤ◌, ◌<ℤ◌, ◌≤ℤ◌}
use Rattle.net_core.proofs.Library.{∥∥₁_elim, props, ints, cases_eq, *ℤ-zero, eq-one_of_dvd-one, AllByRecursion, slice_get_within, All-get_or, get_or_from_slice_get, All-from_recursion, no_pairs}
use Rattle.checked_fraction.specs.Terms.{num}
use Rattle.plan_terms.{specs.Terms.{RouteColumn, LinkSlack, DemandSlack, Carry, Demand, Link, LinkId, Listed, AreDemands, IsDemand, Graph, Joins, IsNetwork, IsDistance, length_of, names_link}, proofs.Lemmas.{DistinctLinks, path_alike, path_links_differ, path_links_inside, links_length}}
use Rattle.simplex_law.{specs.Terms.{int_sum, dot, unit_vector}, proofs.Lemmas.{minus_left, distribute_left, dot-unit, dot-none-column, sum-same, sum-plus, sum-minus, sum-unit}}
use Rattle.route_law.{specs.Terms.AreLinkPrices, proofs.Lemmas.sum-pos}
use Rattle.row_cuts.{specs.KeyPaths.{on_path, row_along, beyond_key, IsPathOf, IsBesideKeys, IsPathBasis, HasShortestKeys}, specs.PathRows.{path_row, key_path, ArePricedNumbers}, specs.declared.path_row.PathRow.PathRow, specs.inner.Tests.{link_at, sum_over, product_at, IsTestedBasis, HasTestedKeys, IsTestedRow, AreLowestNumbers}, proofs.CountedNeeds.rows_are_priced}

-- a sum from its first term on
sum-first : (n : ℕ) (f : ℕ → ℤ) → int_sum (suc n) f ≡ f 0 +ℤ int_sum n (λ k. f (suc k))
sum-first zero f = omega (arith, ints)
sum-first (suc n) f = omega (arith, ints, sum-first n f)

-- a sum over the links of a path, link by link of the network
sum_names : (n : ℕ) (row : ℕ → ℤ) (es : List LinkId) → DistinctLinks es → AllByRecursion (λ e. e.0 < n) es → sum_over row es ≡ row_along n row es
sum_names n row [] distinct inside = sym (dot-none-column n row (on_path []) (λ k l. refl))
sum_names n row (x ∷ xs) distinct inside =
    let each : (e : ℕ) → on_path (x ∷ xs) e ≡ unit_vector x.0 e +ℤ on_path xs e = λ e.
    ⊎_elim
    (λ q. let off : names_link e xs ≡ false = subst (λ i. names_link i xs ≡ false) q distinct.0 in
    rw (eq-eqb x.0 e q, off) refl)
    (λ ne. rw (ne_eqb x.0 e ne) (plain (on_path xs e)))
    (cases_eq x.0 e) in
    let split : row_along n row (x ∷ xs) ≡ dot n row (unit_vector x.0) +ℤ row_along n row xs =
    sum-same n _ (λ k. (row k *ℤ unit_vector x.0 k) +ℤ (row k *ℤ on_path xs k)) (λ k l. ap (λ z. row k *ℤ z) (each k) ∙ distribute_left (unit_vector x.0 k) (on_path xs k) (row k))
    ∙ sum-plus n (λ k. row k *ℤ unit_vector x.0 k) (λ k. row k *ℤ on_path xs k) in
    first ∙ (ap (λ z. row x.0 +ℤ z) (sum_names n row xs distinct.1 inside.1) ∙ sym (split ∙ ap (λ z. z +ℤ row_along n row xs) (sum-unit n x.0 row inside.0)))
  where
    plain : (z : ℤ) → z ≡ pos 0 +ℤ z
    plain z = omega (arith, ints)

    first : sum_over row (x ∷ xs) ≡ row x.0 +ℤ sum_over row xs
    first = sum-first (length xs) (λ i. row (link_at (x ∷ xs) i))

-- the network of which only its existence is told
network_told : (nodes : List (List ℕ)) (links : List Link) → ∥ IsNetwork nodes links ∥₁ → IsNetwork nodes links
network_told nodes links told = ∥∥₁_elim told (hlevel props) (λ network. network)

-- the sum of a row over the links of a path of a demand is the row's sum over all links along the path
names_of : (g : Graph) (demands : List Demand) (row : ℕ → ℤ) (k : ℕ) (path : List LinkId) → IsPathOf g demands k path → sum_over row path ≡ row_along (length g.links) row path
names_of g demands row k path p =
    sum_names (length g.links) row path
    (path_links_differ g p.demand.from.0 p.demand.to.0 path p.leads)
    (path_links_inside g p.demand.from.0 p.demand.to.0 path p.leads)

-- the product of a row with a column is that with what the keys leave of it
product_is : (g : Graph) (demands : List Demand) (keys : List (List LinkId)) (row : ℕ → ℤ) (c : RouteColumn) → ((k : ℕ) → k < length demands → IsPathOf g demands k (key_path keys k)) → IsBesideKeys g demands c
    → product_at keys row c ≡ dot (length g.links) row (beyond_key (key_path keys) c)
product_is g demands keys row (LinkSlack link) lead is = sym (dot-unit (length g.links) link.0 row (unit_vector link.0) is (λ k l. refl))
product_is g demands keys row (DemandSlack d) lead is = absurd is
product_is g demands keys row (Carry k path) lead is =
    let n = length g.links in
    let key = key_path keys k in
    let of_key = lead k (slice_get_within demands k is.demand is.at) in
    both (names_of g demands row k path is) (names_of g demands row k key of_key)
    ∙ sym (sum-same n _ (λ e. (row e *ℤ on_path path e) -ℤ (row e *ℤ on_path key e)) (λ e l. minus_left (on_path path e) (on_path key e) (row e))
    ∙ sum-minus n (λ e. row e *ℤ on_path path e) (λ e. row e *ℤ on_path key e))
  where
    both : {x y s t : ℤ} → x ≡ y → s ≡ t → x -ℤ s ≡ y -ℤ t
    both {x} {y} {s} {t} e f = omega (arith, ints, e, f)

-- a basis whose keys and rows were tested
pub tested_basis : (g : Graph) (demands : List Demand) (keys : List (List LinkId)) (rows : List PathRow) → IsTestedBasis g demands keys rows
    → IsPathBasis g demands (key_path keys) (λ j. (path_row rows j).column) (λ i. num (path_row rows i).nums) (λ i. (path_row rows i).den)
tested_basis g demands keys rows t = record {
  lead = t.keys_lead;
  beside = λ j l. (t.placed j (omega (arith, l, t.count))).beside;
  over = λ i l. (t.placed i (omega (arith, l, t.count))).positive;
  inverse = λ i j li lj.
      sym (product_is g demands keys (num (path_row rows i).nums) (path_row rows j).column t.keys_lead (t.placed j (omega (arith, lj, t.count))).beside)
      ∙ t.inverse i (omega (arith, li, t.count)) j (omega (arith, lj, t.count));
}

-- what a row takes of a path is its length where the numbers are lengths
row_length : (g : Graph) (demands : List Demand) (row : ℕ → ℤ) (lengths : List ℕ) (k : ℕ) (path : List LinkId) → ((e : ℕ) → e < length g.links → row e ≡ pos (slice_index lengths e)) → IsPathOf g demands k path
    → row_along (length g.links) row path ≡ pos (length_of lengths path)
row_length g demands row lengths k path same p =
    let n = length g.links in
    sum-same n _ (λ e. pos (cond (names_link e path) (slice_index lengths e) 0)) (λ e l. ap (λ x. x *ℤ on_path path e) (same e l) ∙ one (slice_index lengths e) (names_link e path))
    ∙ (sum-pos n (λ e. cond (names_link e path) (slice_index lengths e) 0)
    ∙ ap pos (links_length n lengths path (path_links_differ g p.demand.from.0 p.demand.to.0 path p.leads) (path_links_inside g p.demand.from.0 p.demand.to.0 path p.leads)))
  where
    one : (x : ℕ) (b : Bool) → pos x *ℤ cond b (pos 1) (pos 0) ≡ pos (cond b x 0)
    one x true = omega (arith, ints)
    one x false = *ℤ-zero (pos x)

-- keys that were tested are shortest
pub tested_keys : (g : Graph) (demands : List Demand) (keys : List (List LinkId)) (nums : List ℤ) (lengths : List ℕ) → AreDemands (length g.nodes) demands
    → ((k : ℕ) → k < length demands → IsPathOf g demands k (key_path keys k)) → AreLowestNumbers (length g.links) nums lengths → HasTestedKeys g demands keys nums lengths
    → HasShortestKeys g demands (key_path keys) (num nums)
tested_keys g demands keys nums lengths are lead low t = record {
  positive = λ e l. subst (λ x. pos 0 ≤ℤ x) (sym (same e l)) (omega (arith, ints));
  shortest = λ k path p.
      let l : k < length demands = slice_get_within demands k p.demand p.at in
      let d = p.demand in
      let far = t.far k d l p.at in
      let known : IsDemand (length g.nodes) d = subst (IsDemand (length g.nodes)) (get_or_from_slice_get demands k d d p.at) (All-get_or (IsDemand (length g.nodes)) demands k d l are.each) in
      let least = subst (λ o. IsDistance (Joins g) lengths d.from.0 d.to.0 o) far.1 (t.distances.each d.from.0 d.to.0 known.from_known known.to_known) in
      at_most (row_along (length g.links) (num nums) (key_path keys k)) (row_along (length g.links) (num nums) path)
      (sym (names_of g demands (num nums) k (key_path keys k) (lead k l))) far.2 (row_length g demands (num nums) lengths k path same p) (least.1 path p.leads);
  some = t.long.0;
  inside = t.long.1;
  longer = subst (λ x. pos 0 <ℤ x) (names_of g demands (num nums) t.long.0 (key_path keys t.long.0) (lead t.long.0 t.long.1)) t.long.2;
}
  where
    same : (e : ℕ) → e < length g.links → num nums e ≡ pos (slice_index lengths e)
    same e l = low.numbers.same e (omega (arith, l, low.count))

    at_most : (x y : ℤ) {s : ℤ} {f m : ℕ} → x ≡ s → s ≤ℤ pos f → y ≡ pos m → f ≤ m → x ≤ℤ y
    at_most x y {s} {f} {m} a b c d = omega (arith, ints, a, b, c, d)

-- the numbers as link prices
pub lowest_prices : (n : ℕ) (nums : List ℤ) (lengths : List ℕ) → AreLowestNumbers n nums lengths → AreLinkPrices n (num nums) lengths
lowest_prices n nums lengths low = record {
  count = low.numbers.count ∙ low.count;
  factor = 1;
  positive = omega arith;
  same = λ e l. low.numbers.same e (omega (arith, l, low.count)) ∙ ap pos (one_times (slice_index lengths e));
  lowest = λ d all. eq-one_of_dvd-one (low.lowest.greatest d all);
}
  where
    one_times : (x : ℕ) → x ≡ 1 * x
    one_times x = omega arith

-- the network without listed states
abbrev alone : Graph → Graph
alone g = record { nodes = g.nodes; links = g.links; listed = []; state = 0 }

module _ (nodes : List (List ℕ)) (links : List Link) (listed : List Listed) where
  abbrev here : Graph
  here = record { nodes = nodes; links = links; listed = listed; state = 0 }

  joins_alone : (e x y : ℕ) → Joins here e x y → Joins (alone here) e x y
  joins_alone e x y j = record { survives = record { link = j.survives.link; at = j.survives.at; has_module = j.survives.has_module; unfailed = refl }; ends = j.ends }

  joins_here : (e x y : ℕ) → Joins (alone here) e x y → Joins here e x y
  joins_here e x y j = record { survives = record { link = j.survives.link; at = j.survives.at; has_module = j.survives.has_module; unfailed = refl }; ends = j.ends }

  module _ (demands : List Demand) where
    path_alone : (k : ℕ) (path : List LinkId) → IsPathOf here demands k path → IsPathOf (alone here) demands k path
    path_alone k path p = record { demand = p.demand; at = p.at; leads = path_alike (Joins here) (Joins (alone here)) joins_alone p.demand.from.0 p.demand.to.0 path p.leads }

    path_here : (k : ℕ) (path : List LinkId) → IsPathOf (alone here) demands k path → IsPathOf here demands k path
    path_here k path p = record { demand = p.demand; at = p.at; leads = path_alike (Joins (alone here)) (Joins here) joins_here p.demand.from.0 p.demand.to.0 path p.leads }

    beside_alone : (c : RouteColumn) → IsBesideKeys here demands c → IsBesideKeys (alone here) demands c
    beside_alone (LinkSlack link) is = is
    beside_alone (DemandSlack d) is = is
    beside_alone (Carry k path) is = path_alone k path is

  -- a row of a tested basis with tested keys is priced
  pub tested_prices : (demands : List Demand) (keys : List (List LinkId)) (rows : List PathRow) (r : ℕ) (lengths : List ℕ) → ∥ IsNetwork nodes links ∥₁ → AreDemands (length nodes) demands
      → r < length rows → IsTestedRow here demands keys rows (path_row rows r).nums lengths → ArePricedNumbers (length links) (path_row rows r).nums lengths
  tested_prices demands keys rows r lengths told are inside t =
      let h = tested_basis here demands keys rows t.basis in
      let s = tested_keys here demands keys (path_row rows r).nums lengths are t.basis.keys_lead t.numbers t.shortest in
      let prices = lowest_prices (length links) (path_row rows r).nums lengths t.numbers in
      record {
        of_row = prices;
        somewhere = rows_are_priced (alone here) demands (key_path keys) (λ j. (path_row rows j).column) (λ i. num (path_row rows i).nums) (λ i. (path_row rows i).den) r lengths
            (network_told nodes links told)
            (record {
              checked = record { few = omega arith; some = All-from_recursion (λ l. 1 ≤ length l.links) [] tt; different = no_pairs (λ x y. x.name ≢ y.name) };
              known = All-from_recursion (λ l. All (λ k. k.0 < length links) l.links) [] tt;
            })
            (omega arith) are
            (record {
              lead = λ k l. path_alone demands k (key_path keys k) (h.lead k l);
              beside = λ j l. beside_alone demands (path_row rows j).column (h.beside j l);
              over = h.over;
              inverse = h.inverse;
            })
            (omega (arith, inside, t.basis.count))
            (record {
              positive = s.positive;
              shortest = λ k path p. s.shortest k path (path_here demands k path p);
              some = s.some;
              inside = s.inside;
              longer = s.longer;
            })
            prices;
      }

  -- the numbers of a row that a function tested are priced
  pub tested_answer : (demands others : List Demand) (keys : List (List LinkId)) (rows : List PathRow) (r : ℕ) (nums : List ℤ) (lengths : List ℕ) → others ≡ demands → nums ≡ (path_row rows r).nums
      → ∥ IsNetwork nodes links ∥₁ → AreDemands (length nodes) demands → r < length rows → IsTestedRow here others keys rows nums lengths → ArePricedNumbers (length links) (path_row rows r).nums lengths
  tested_answer demands others keys rows r nums lengths same same_nums told are inside t =
      tested_prices demands keys rows r lengths told are inside (subst (λ ds. IsTestedRow here ds keys rows (path_row rows r).nums lengths) same (subst (λ ns. IsTestedRow here others keys rows ns lengths) same_nums t))
