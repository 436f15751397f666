-- the lists of the slack basis
use Rattle.std.proofs.Common.{◌≡◌, ℕ, ℤ, List, Some, length, length-set, pos, get_or, slice_get, replicate, ◌+◌, ◌-◌, ◌<◌, ◌^◌, sym, ap, ◌∙◌, subst, arith, ⊎_elim}
use Rattle.net_core.proofs.Library.{cases_lt, ints, get_or-replicate, get_or_from_slice_get, length-replicate}
use Rattle.checked_fraction.{specs.Terms.{num, IsNarrow}, specs.declared.row.Row.Row, proofs.Units.zeros_narrow}
use Rattle.plan_terms.specs.Terms.{Graph, DemandSlack}
use Rattle.route_law.specs.Terms.{route_slack}
use Rattle.simplex_core.{specs.Terms.{nums_of, den_of, AtEach, IsUnit}, proofs.Starts.{each_at, zeros_num, zeros_length, num_past, unit_num}}
use Rattle.key_rows.{specs.Terms.{column_name, IsNameWithin}, specs.declared.keyed.Keyed.Keyed}
use Rattle.key_paths.{specs.inner.Starts.IsStart, proofs.Starting.{first, second}}

pub number_at : (f : ℕ → ℤ) (xs : List ℤ) (k : ℕ) → AtEach (λ i x. x ≡ f i) xs → k < length xs → num xs k ≡ f k
number_at f xs k all l = let x = each_at (λ i x. x ≡ f i) xs k l all in get_or_from_slice_get xs k x.0 (pos 0) x.1 ∙ x.2

-- the parts make the slack basis
pub start_of : (g : Graph) (demands : ℕ) (bound : ℕ → ℤ) (b : Keyed) → length g.links + demands < 2 ^ 32 → ((k : ℕ) → k < length g.links + demands → IsNarrow (bound k))
    → length b.names ≡ length g.links + demands → AtEach (λ i name. name ≡ route_slack g i) b.names
    → length b.places ≡ length g.links + demands → AtEach (λ i k. k ≡ i) b.places
    → b.owners ≡ replicate (length g.links) demands → length b.rows ≡ length g.links → AtEach (IsUnit (length g.links)) b.rows
    → b.prices.nums ≡ replicate (length g.links) (pos 0) → b.prices.den ≡ pos 1 → b.duals ≡ replicate demands (pos 0)
    → length b.bounds ≡ length g.links + demands → AtEach (λ i x. x ≡ bound i) b.bounds
    → length b.rest ≡ length g.links → AtEach (λ k x. x ≡ num b.bounds k) b.rest
    → length b.values ≡ length g.links → AtEach (λ k x. pos x ≡ num b.bounds k) b.values → length b.products ≡ length g.links
    → IsStart (length g.links) demands bound (route_slack g) b
start_of g demands bound b short narrow count_names names count_places places owners count_rows rows prices den duals count_bounds bounds count_rest rest count_values values products =
    let n = length g.links in
    let row : (i : ℕ) → i < n → (r : Row) × (slice_get b.rows i ≡ Some r) × IsUnit n i r = λ i l. each_at (IsUnit n) b.rows i (omega (arith, count_rows, l)) rows in
    let name : (j : ℕ) → j < n + demands → column_name b.names j ≡ route_slack g j = λ j l.
    let x = each_at (λ i x. x ≡ route_slack g i) b.names j (omega (arith, count_names, l)) names in get_or_from_slice_get b.names j x.0 (DemandSlack 0) x.1 ∙ x.2 in
    let place : (r : ℕ) → r < n + demands → get_or b.places r 0 ≡ r = λ r l.
    let x = each_at (λ i k. k ≡ i) b.places r (omega (arith, count_places, l)) places in get_or_from_slice_get b.places r x.0 0 x.1 ∙ x.2 in
    let at : (k : ℕ) → k < n + demands → num b.bounds k ≡ bound k = λ k l. number_at bound b.bounds k bounds (omega (arith, count_bounds, l)) in
    record {
      shaped = record {
        names = count_names;
        places = count_places;
        owners = ap length owners ∙ length-replicate n demands;
        rows = count_rows;
        rectangle = λ i l. let r = row i (omega (arith, count_rows, l)) in
            ap (λ o. length (nums_of o)) r.1 ∙ (ap length r.2.0 ∙ (length-set (replicate n (pos 0)) i (pos 1) ∙ zeros_length n));
        prices = ap length prices ∙ zeros_length n;
        duals = ap length duals ∙ zeros_length demands;
        bounds = count_bounds;
        rest = count_rest;
        values = count_values;
        products = products;
        narrow_bounds = λ k. ⊎_elim
            (λ l. subst IsNarrow (sym (at k l)) (narrow k l))
            (λ ge. subst IsNarrow (sym (num_past b.bounds k (omega (arith, count_bounds, ge)))) (omega (arith, ints)))
            (cases_lt k (n + demands));
        narrow_duals = λ d. subst (λ xs. IsNarrow (num xs d)) (sym duals) (zeros_narrow demands d);
        inside = λ r l. omega (arith, place r l, l);
        within = λ j l. subst (IsNameWithin n) (sym (name j l)) (⊎_elim
            (λ low. subst (IsNameWithin n) (sym (first g demands j low)) low)
            (λ ge. let back : n + (j - n) ≡ j = omega (arith, ge) in subst (λ x. IsNameWithin n (route_slack g x)) back (subst (IsNameWithin n) (sym (second g demands (j - n))) tt))
            (cases_lt j n));
        short = short;
      };
      names = name;
      places = place;
      owners = λ i l. ap (λ xs. get_or xs i 0) owners ∙ get_or-replicate n i demands 0 l;
      units = λ i k li lk. let r = row i li in ap (λ o. num (nums_of o) k) r.1 ∙ (ap (λ xs. num xs k) r.2.0 ∙ unit_num n i k li);
      ones = λ i l. let r = row i l in ap den_of r.1 ∙ r.2.1;
      zeros = λ k l. ap (λ xs. num xs k) prices ∙ zeros_num n k;
      one = den;
      free = λ d l. ap (λ xs. num xs d) duals ∙ zeros_num demands d;
      bounds = at;
      rest = λ k l. number_at (num b.bounds) b.rest k rest (omega (arith, count_rest, l)) ∙ at k (omega (arith, l));
      values = λ i l. let x = each_at (λ k x. pos x ≡ num b.bounds k) b.values i (omega (arith, count_values, l)) values in
          ap pos (get_or_from_slice_get b.values i x.0 0 x.1) ∙ (x.2 ∙ at i (omega (arith, l)));
    }
