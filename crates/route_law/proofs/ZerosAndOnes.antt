-- each vector of zeros and ones with a one is priced: two nodes, a link for each number, and one demand
use Rattle.std.{proofs.Common.{◌≡◌, ◌≢◌, ℕ, zero, suc, ◌+◌, ◌-◌, ◌*◌, ◌<◌, ◌≤◌, ◌^◌, List, [], ◌∷◌, All, Some, true, false, ◌||◌, cond, eqb, length, map, get_or, slice_get, slice_index, refl, sym, ap, ◌∙◌, arith, subst, inl, inr, ⊎_elim, ℤ, pos, ◌+ℤ◌, ◌-ℤ◌, ◌*ℤ◌, ◌<ℤ◌, ◌≤ℤ◌, eq-eqb, ne_eqb}, proofs.lemmas.List.Kept.AllPairs-cons}
use Rattle.net_core.proofs.Library.{range_with_len, zero-*ℤ, eq-one_of_dvd-one, ◌∣◌, ints, cases_eq, cases_lt, get_or_past, All-get_or, All-from_get_or, All-from_recursion, length-map-range_with_len, get_or-map-range_with_len, sum_by-cons, slice_get_within, slice_get-get_or, get_or_from_slice_get, no_pairs}
use Rattle.plan_terms.specs.Terms.{RouteColumn, Carry, Demand, LinkId, Link, Module, Caps, AreDemands, IsDemand, Graph, Joins, IsNetwork, IsLink, IsModule, names_link, IsPath, Leads, last_node}
use Rattle.simplex_law.{specs.Terms.{dot, unit_vector, ColumnOf, slack_basis, IsBest, IsFeasible}, proofs.Lemmas.{times_nonneg, none_gains, part_of_sum, slack_is, unit-same, unit-other, dot-unit, dot-of-unit}}
use Rattle.route_law.{specs.Laws.ZerosAndOnesArePriced, specs.PricedLengths.{ArePricedLengths, ArePricedSomewhere}, specs.RoutingPrograms.{scaled_need, path_entry, IsCarrying, route_rows, route_bound, route_slack, IsRouteColumn}, proofs.Rows.{beside_first, beside_second, beside_each}, proofs.TermSums.{dot-pair, dot-minus, sum_of_ones}}

abbrev link_id : ℕ → LinkId
link_id e = record { 0 = e }

abbrev free_module : Module
free_module = record { capacity = 1; cost = 0 }

-- a link between both nodes, with a module where the number isn't 0
abbrev witness_link : List ℕ → ℕ → Link
witness_link xs e = record { name = e ∷ []; a = record { 0 = 0 }; b = record { 0 = 1 }; fixed = 0; setup = 0; modules = cond (eqb (slice_index xs e) 0) [] (free_module ∷ []) }

abbrev witness_links : List ℕ → List Link
witness_links xs = map (witness_link xs) (range_with_len 0 (length xs))

abbrev witness : List ℕ → Graph
witness xs = record { nodes = (65 ∷ []) ∷ (66 ∷ []) ∷ []; links = witness_links xs; listed = []; state = 0 }

-- a demand of one more than there are links
abbrev witness_demand : List ℕ → Demand
witness_demand xs = record { name = 68 ∷ []; from = record { 0 = 0 }; to = record { 0 = 1 }; need = length xs + 1 }

abbrev witness_demands : List ℕ → List Demand
witness_demands xs = witness_demand xs ∷ []

abbrev witness_caps : List ℕ → Caps
witness_caps xs = record { scale = 1; nums = xs }

abbrev count_of : List ℕ → ℕ
count_of xs = length (witness_links xs)

abbrev rows_of : List ℕ → ℕ
rows_of xs = route_rows (witness xs) (witness_demands xs)

abbrev bound_of : List ℕ → ℕ → ℤ
bound_of xs = route_bound (witness xs) (witness_demands xs) (witness_caps xs)

abbrev slack_of : List ℕ → ℕ → RouteColumn
slack_of xs = route_slack (witness xs)

abbrev is_column : List ℕ → ColumnOf RouteColumn → Type 0
is_column xs = IsRouteColumn (witness xs) (witness_demands xs)

-- the demand along one of n links
abbrev along_link : ℕ → ℕ → ColumnOf RouteColumn
along_link n j = record { name = Carry 0 (link_id j ∷ []); gain = pos 1; entry = λ k. unit_vector j k +ℤ unit_vector n k }

-- the demand along each link with a one, and slacks
abbrev basis_of : List ℕ → ℕ → ColumnOf RouteColumn
basis_of xs j = cond (eqb (slice_index xs j) 1) (along_link (count_of xs) j) (slack_basis (slack_of xs) j)

-- the prices: the numbers themselves, and 0 for the demand
abbrev prices_of : List ℕ → ℕ → ℤ
prices_of xs k = pos (slice_index xs k)

module _ (xs : List ℕ) (low : (e : ℕ) → slice_index xs e ≤ 1) where
  links_count : count_of xs ≡ length xs
  links_count = length-map-range_with_len (witness_link xs) 0 (length xs)

  link_at : (e : ℕ) (d : Link) → e < length xs → get_or (witness_links xs) e d ≡ witness_link xs e
  link_at e d l = get_or-map-range_with_len (witness_link xs) 0 (length xs) e e d l (omega arith)

  past : (e : ℕ) → count_of xs ≤ e → slice_index xs e ≡ 0
  past e l = get_or_past xs e 0 (omega (arith, links_count, l))

  inside : (e : ℕ) → slice_index xs e ≢ 0 → e < count_of xs
  inside e some = ⊎_elim (λ l. l) (λ g. absurd (some (past e g))) (cases_lt e (count_of xs))

  -- a link with a one survives and joins both nodes
  joins_one : (e : ℕ) → slice_index xs e ≡ 1 → Joins (witness xs) e 0 1
  joins_one e is =
      let l : e < count_of xs = inside e (λ z. omega (arith, is, z)) in
      record {
        survives = record {
          link = witness_link xs e;
          at = slice_get-get_or (witness_links xs) e (witness_link xs e) l ∙ ap Some (link_at e (witness_link xs e) (omega (arith, links_count, l)));
          has_module = subst (λ t. cond t [] (free_module ∷ []) ≢ []) (sym (ne_eqb (slice_index xs e) 0 (λ z. omega (arith, z, is)))) (λ z. cc z);
          unfailed = refl;
        };
        ends = inl (refl, refl);
      }

  -- a link that survives has a one
  one_joins : (e x y : ℕ) → Joins (witness xs) e x y → slice_index xs e ≡ 1
  one_joins e x y j =
      let l : e < length xs = subst (λ n. e < n) links_count (slice_get_within (witness_links xs) e j.survives.link j.survives.at) in
      let same : j.survives.link ≡ witness_link xs e = sym (get_or_from_slice_get (witness_links xs) e j.survives.link j.survives.link j.survives.at) ∙ link_at e j.survives.link l in
      ⊎_elim
      (λ z. absurd (j.survives.has_module (ap (λ (k : Link). k.modules) same ∙ ap (λ t. cond t [] (free_module ∷ [])) (eq-eqb (slice_index xs e) 0 z))))
      (λ ne. omega (arith, ne, low e))
      (cases_eq (slice_index xs e) 0)

  -- what holds along links with a one, and of slacks elsewhere, holds of the basis
  at_basis : (P : ColumnOf RouteColumn → Type 0) (j : ℕ) → (slice_index xs j ≡ 1 → P (along_link (count_of xs) j)) → (slice_index xs j ≡ 0 → P (slack_basis (slack_of xs) j)) → P (basis_of xs j)
  at_basis P j one none = ⊎_elim
      (λ e. subst (λ t. P (cond t (along_link (count_of xs) j) (slack_basis (slack_of xs) j))) (sym (eq-eqb (slice_index xs j) 1 e)) (one e))
      (λ ne. subst (λ t. P (cond t (along_link (count_of xs) j) (slack_basis (slack_of xs) j))) (sym (ne_eqb (slice_index xs j) 1 ne)) (none (omega (arith, ne, low j))))
      (cases_eq (slice_index xs j) 1)

  single : (j k : ℕ) → names_link k (link_id j ∷ []) ≡ eqb j k
  single j k = elim (eqb j k) as (λ b. (b || false) ≡ b) [ true ↦ refl | false ↦ refl ]

  is_along : (j : ℕ) → slice_index xs j ≡ 1 → IsCarrying (witness xs) (witness_demands xs) (along_link (count_of xs) j)
  is_along j is = record {
    place = 0;
    demand = witness_demand xs;
    at = refl;
    needed = omega arith;
    path = link_id j ∷ [];
    leads = (1 ∷ [], (joins_one j is, tt), refl, (((λ z. omega (arith, z)), tt), (tt, tt)));
    named = refl;
    gain = refl;
    entry = λ k lk. let n = count_of xs in let lj = inside j (λ z. omega (arith, is, z)) in
        ⊎_elim
        (λ l. (ap (λ x. unit_vector j k +ℤ x) (unit-other n k (λ e. omega (arith, e, l))) ∙ (plain (unit_vector j k) ∙ ap (λ t. cond t (pos 1) (pos 0)) (sym (single j k))))
        ∙ sym (beside_first n (λ e. cond (names_link e (link_id j ∷ [])) (pos 1) (pos 0)) (unit_vector 0) k l))
        (λ g. let e : k ≡ n = omega (arith, g, lk) in
        subst (λ i. unit_vector j i +ℤ unit_vector n i ≡ path_entry (witness xs) 0 (link_id j ∷ []) i) (sym e)
        (ap (λ x. x +ℤ unit_vector n n) (unit-other j n (λ z. omega (arith, z, lj)))
        ∙ (ap (λ x. pos 0 +ℤ x) (unit-same n)
        ∙ sym (beside_second n (λ e. cond (names_link e (link_id j ∷ [])) (pos 1) (pos 0)) (unit_vector 0) n (omega arith) ∙ ap (unit_vector 0) (none_left n)))))
        (cases_lt k n);
  }
    where
      plain : (x : ℤ) → x +ℤ pos 0 ≡ x
      plain x = omega (arith, ints)

      none_left : (n : ℕ) → n - n ≡ 0
      none_left n = omega arith

  columns : (j : ℕ) → j < rows_of xs → is_column xs (basis_of xs j)
  columns j l = at_basis (is_column xs) j
      (λ is. inl (is_along j is))
      (λ none. inr (slack_is (rows_of xs) (slack_of xs) j l))

  last : count_of xs < rows_of xs
  last = omega arith

  -- the row of a link, and that of the demand
  link_row : (i : ℕ) → i < count_of xs → (j : ℕ) → j < rows_of xs → dot (rows_of xs) (unit_vector i) ((basis_of xs j).entry) ≡ pos 1 *ℤ unit_vector i j
  link_row i li j lj = at_basis (λ c. dot (rows_of xs) (unit_vector i) c.entry ≡ pos 1 *ℤ unit_vector i j) j
      (λ is. dot-pair (rows_of xs) j (count_of xs) (unit_vector i) lj last ∙ omega (arith, ints, unit-other i (count_of xs) (λ e. omega (arith, e, li))))
      (λ none. dot-unit (rows_of xs) j (unit_vector i) (unit_vector j) lj (λ k l. refl) ∙ omega (arith, ints))

  abbrev demand_nums : ℕ → ℤ
  demand_nums k = unit_vector (count_of xs) k -ℤ prices_of xs k

  none_last : prices_of xs (count_of xs) ≡ pos 0
  none_last = ap pos (past (count_of xs) (omega arith))

  demand_row : (j : ℕ) → j < rows_of xs → dot (rows_of xs) demand_nums ((basis_of xs j).entry) ≡ pos 1 *ℤ unit_vector (count_of xs) j
  demand_row j lj = at_basis (λ c. dot (rows_of xs) demand_nums c.entry ≡ pos 1 *ℤ unit_vector (count_of xs) j) j
      (λ is. dot-pair (rows_of xs) j (count_of xs) demand_nums lj last ∙ omega (arith, ints, none_last, unit-same (count_of xs), ap pos is))
      (λ none. dot-unit (rows_of xs) j demand_nums (unit_vector j) lj (λ k l. refl) ∙ omega (arith, ints, ap pos none))

  objective : (j : ℕ) → j < rows_of xs → dot (rows_of xs) (prices_of xs) ((basis_of xs j).entry) ≡ pos 1 *ℤ (basis_of xs j).gain
  objective j lj = at_basis (λ c. dot (rows_of xs) (prices_of xs) c.entry ≡ pos 1 *ℤ c.gain) j
      (λ is. dot-pair (rows_of xs) j (count_of xs) (prices_of xs) lj last ∙ omega (arith, ints, none_last, ap pos is))
      (λ none. dot-unit (rows_of xs) j (prices_of xs) (unit_vector j) lj (λ k l. refl) ∙ omega (arith, ints, ap pos none))

  abbrev nums_part : ℕ → ℤ
  nums_part e = pos (slice_index xs e)

  abbrev needs_part : ℕ → ℤ
  needs_part k = pos (scaled_need (witness_demands xs) (witness_caps xs) k)

  bound_nonneg : (k : ℕ) → pos 0 ≤ℤ bound_of xs k
  bound_nonneg k = beside_each (λ z. pos 0 ≤ℤ z) (count_of xs) nums_part needs_part k (λ l. omega (arith, ints)) (λ l. omega (arith, ints))

  -- what the paths take of the demand is at most the count of links
  at_most_one : (k : ℕ) → k < rows_of xs → (prices_of xs k *ℤ bound_of xs k) ≤ℤ pos 1
  at_most_one k l = ⊎_elim
      (λ z. subst (λ x. x ≤ℤ pos 1) (sym (ap (λ x. pos x *ℤ bound_of xs k) z ∙ zero-*ℤ (bound_of xs k))) (omega (arith, ints)))
      (λ some. let one : slice_index xs k ≡ 1 = omega (arith, some, low k) in
      subst (λ x. (pos x *ℤ bound_of xs k) ≤ℤ pos 1) (sym one)
      (subst (λ x. (pos 1 *ℤ x) ≤ℤ pos 1) (sym (beside_first (count_of xs) nums_part needs_part k (inside k some) ∙ ap pos one)) (omega (arith, ints))))
      (cases_eq (slice_index xs k) 0)

  demand_bound : bound_of xs (count_of xs) ≡ pos (length xs + 1)
  demand_bound =
      beside_second (count_of xs) nums_part needs_part (count_of xs) (omega arith)
      ∙ (ap needs_part (none_left (count_of xs)) ∙ ap pos (times_one (length xs + 1)))
    where
      none_left : (n : ℕ) → n - n ≡ 0
      none_left n = omega arith

      times_one : (n : ℕ) → n * 1 ≡ n
      times_one n = omega arith

  demand_value : pos 0 ≤ℤ dot (rows_of xs) demand_nums (bound_of xs)
  demand_value =
      let parts = dot-minus (rows_of xs) (unit_vector (count_of xs)) (prices_of xs) (bound_of xs) in
      let whole = dot-of-unit (rows_of xs) (count_of xs) (unit_vector (count_of xs)) (bound_of xs) last (λ k l. refl) in
      let taken : dot (rows_of xs) (prices_of xs) (bound_of xs) ≤ℤ pos (rows_of xs) = sum_of_ones (rows_of xs) (λ k. prices_of xs k *ℤ bound_of xs k) at_most_one in
      let rows : rows_of xs ≡ length xs + 1 = omega (arith, links_count) in
      omega (arith, ints, parts, whole, demand_bound, subst (λ n. dot (rows_of xs) (prices_of xs) (bound_of xs) ≤ℤ pos n) rows taken)

  feasible : IsFeasible (rows_of xs) (bound_of xs) (is_column xs) (basis_of xs)
  feasible = record {
    columns = columns;
    filled = λ i l. ⊎_elim
        (λ li. (unit_vector i, pos 1, (omega (arith, ints), link_row i li), subst (λ x. pos 0 ≤ℤ x) (sym (dot-of-unit (rows_of xs) i (unit_vector i) (bound_of xs) l (λ k h. refl))) (bound_nonneg i)))
        (λ g. let e : count_of xs ≡ i = omega (arith, g, l) in
        (demand_nums, pos 1, (omega (arith, ints), subst (λ r. (j : ℕ) → j < rows_of xs → dot (rows_of xs) demand_nums ((basis_of xs j).entry) ≡ pos 1 *ℤ unit_vector r j) e demand_row), demand_value))
        (cases_lt i (count_of xs));
  }

  -- a path between different nodes has a link with a one
  first_link : (a b : ℕ) (es : List LinkId) (cs : List ℕ) → Leads (Joins (witness xs)) a es cs → last_node a cs ≡ b → a ≢ b → (e : ℕ) × (slice_index xs e ≡ 1) × (names_link e es ≡ true)
  first_link a b [] [] leads ends ne = absurd (ne ends)
  first_link a b [] (c ∷ cs) leads ends ne = absurd leads
  first_link a b (e ∷ es) [] leads ends ne = absurd leads
  first_link a b (e ∷ es) (c ∷ cs) leads ends ne = (e.0, one_joins e.0 a c leads.0, ap (λ t. t || names_link e.0 es) (eq-eqb e.0 e.0 refl))

  only : (d x : Demand) (k : ℕ) → slice_get (d ∷ []) k ≡ Some x → d ≡ x
  only d x zero e = cc e
  only d x (suc k) e = absurd (cc e)

  unit_nonneg : (i k : ℕ) → pos 0 ≤ℤ unit_vector i k
  unit_nonneg i k = elim (eqb i k) as (λ t. pos 0 ≤ℤ cond t (pos 1) (pos 0)) [ true ↦ omega (arith, ints) | false ↦ omega (arith, ints) ]

  no_gain : (c : ColumnOf RouteColumn) → IsCarrying (witness xs) (witness_demands xs) c → dot (rows_of xs) (prices_of xs) c.entry <ℤ (pos 1 *ℤ c.gain) → ⊥
  no_gain c is gains =
      let the : witness_demand xs ≡ is.demand = only (witness_demand xs) is.demand is.place is.at in
      let path : IsPath (Joins (witness xs)) 0 1 is.path = subst (λ (d : Demand). IsPath (Joins (witness xs)) d.from.0 d.to.0 is.path) (sym the) is.leads in
      let first = first_link 0 1 is.path path.0 path.1 path.2 (λ z. omega (arith, z)) in
      let e = first.0 in
      let le : e < count_of xs = inside e (λ z. omega (arith, z, first.1)) in
      let entry_is : c.entry e ≡ pos 1 = is.entry e (omega (arith, le)) ∙ (beside_first (count_of xs) (λ k. cond (names_link k is.path) (pos 1) (pos 0)) (unit_vector is.place) e le ∙ ap (λ t. cond t (pos 1) (pos 0)) first.2) in
      let term : prices_of xs e *ℤ c.entry e ≡ pos 1 = ap (λ x. pos x *ℤ c.entry e) first.1 ∙ ap (λ y. pos 1 *ℤ y) entry_is in
      let below = part_of_sum (rows_of xs) e (λ k. prices_of xs k *ℤ c.entry k) (λ k lk. times_nonneg (prices_of xs k) (c.entry k) (omega (arith, ints))
      (subst (λ x. pos 0 ≤ℤ x) (sym (is.entry k lk)) (beside_each (λ z. pos 0 ≤ℤ z) (count_of xs) (λ i. cond (names_link i is.path) (pos 1) (pos 0)) (unit_vector is.place) k
      (λ l. elim (names_link k is.path) as (λ t. pos 0 ≤ℤ cond t (pos 1) (pos 0)) [ true ↦ omega (arith, ints) | false ↦ omega (arith, ints) ]) (λ l. unit_nonneg is.place (k - count_of xs))))) (omega (arith, le)) in
      absurd (omega (arith, ints, below, term, is.gain, gains))

  best : IsBest (rows_of xs) (bound_of xs) (is_column xs) (basis_of xs) (prices_of xs) (pos 1)
  best = record {
    feasible = feasible;
    objective = (omega (arith, ints), objective);
    none = none_gains (rows_of xs) (bound_of xs) (slack_of xs) (IsCarrying (witness xs) (witness_demands xs)) (prices_of xs) (pos 1) (λ k l. omega (arith, ints)) no_gain;
  }

  priced_there : (e : ℕ) → slice_index xs e ≡ 1 → ArePricedLengths (witness xs) (witness_demands xs) (witness_caps xs) xs
  priced_there e is = record {
    basis = basis_of xs;
    duals = prices_of xs;
    den = pos 1;
    best = best;
    prices = record {
      count = sym links_count;
      factor = 1;
      positive = omega arith;
      same = λ k l. ap pos (one_times (slice_index xs k));
      lowest = λ d all. eq-one_of_dvd-one (subst (λ x. d ∣ x) is (All-get_or (λ x. d ∣ x) xs e 0 (omega (arith, links_count, inside e (λ z. omega (arith, z, is)))) all));
    };
  }
    where
      one_times : (n : ℕ) → n ≡ 1 * n
      one_times n = omega arith

  -- the network of the witness
  is_link : (e : ℕ) → IsLink 2 (witness_link xs e)
  is_link e = record {
    from = omega arith;
    to = omega arith;
    different = λ z. omega (arith, z);
    fixed = omega arith;
    setup = omega arith;
    few = elim (eqb (slice_index xs e) 0) as (λ t. length (cond t [] (free_module ∷ [])) ≤ 16) [ true ↦ omega arith | false ↦ omega arith ];
    each = elim (eqb (slice_index xs e) 0) as (λ t. All IsModule (cond t [] (free_module ∷ []))) [
      | true ↦ All-from_recursion IsModule [] tt
      | false ↦ All-from_recursion IsModule (free_module ∷ []) (record { carries = omega arith; capacity = omega arith; cost = omega arith }, tt)
    ];
    served = λ z. refl;
  }

  network : length xs ≤ 256 → IsNetwork ((65 ∷ []) ∷ (66 ∷ []) ∷ []) (witness_links xs)
  network few = record {
    few_nodes = omega arith;
    few_links = omega (arith, links_count, few);
    different_nodes = AllPairs-cons (λ x y. x ≢ y) (65 ∷ []) ((66 ∷ []) ∷ []) (All-from_recursion (λ y. (65 ∷ []) ≢ y) ((66 ∷ []) ∷ []) ((λ z. let e : 65 ≡ 66 = ap (λ (n : List ℕ). get_or n 0 0) z in omega (arith, e)), tt))
        (AllPairs-cons (λ x y. x ≢ y) (66 ∷ []) [] (All-from_recursion (λ y. (66 ∷ []) ≢ y) [] tt) (no_pairs (λ x y. x ≢ y)));
    different_links = λ i j d ij lj same.
        let inside_j : j < length xs = omega (arith, links_count, lj) in
        let names : i ∷ [] ≡ j ∷ [] = ap (λ (l : Link). l.name) (sym (link_at i d (omega (arith, ij, inside_j)))) ∙ (same ∙ ap (λ (l : Link). l.name) (link_at j d inside_j)) in
        let e : i ≡ j = cc names in
        omega (arith, e, ij);
    sound = All-from_get_or (IsLink 2) (witness_links xs) (witness_link xs 0) (λ i l. subst (IsLink 2) (sym (link_at i (witness_link xs 0) (subst (λ n. i < n) links_count l))) (is_link i));
  }

  demands : length xs ≤ 256 → AreDemands 2 (witness_demands xs)
  demands few = record {
    few = omega arith;
    different = AllPairs-cons (λ x y. x.name ≢ y.name) (witness_demand xs) [] (All-from_recursion (λ y. (witness_demand xs).name ≢ y.name) [] tt) (no_pairs (λ x y. x.name ≢ y.name));
    each = All-from_recursion (IsDemand 2) (witness_demands xs) (record { from_known = omega arith; to_known = omega arith; different = λ z. omega (arith, z); need = omega (arith, few) }, tt);
    total = omega (arith, few, sum_by-cons (λ (d : Demand). d.need) (witness_demand xs) []);
  }

  -- a vector of zeros and ones with a one is priced
  priced_somewhere : length xs ≤ 256 → (e : ℕ) → slice_index xs e ≡ 1 → ArePricedSomewhere xs
  priced_somewhere few e is = record {
    g = witness xs;
    network = network few;
    states = record {
      checked = record { few = omega arith; some = All-from_recursion (λ l. 1 ≤ length l.links) [] tt; different = no_pairs (λ x y. x.name ≢ y.name) };
      known = All-from_recursion (λ l. All (λ k. k.0 < length (witness_links xs)) l.links) [] tt;
    };
    listed_state = omega arith;
    demands = witness_demands xs;
    are_demands = demands few;
    caps = witness_caps xs;
    scale = (omega arith, omega arith);
    nums = (sym links_count, All-from_get_or (λ n. n < 2 ^ 128) xs 0 (λ i l. omega (arith, low i)));
    priced = priced_there e is;
  }

pub zeros_and_ones_are_priced : ZerosAndOnesArePriced
zeros_and_ones_are_priced lengths e few low one = priced_somewhere lengths low few e one
