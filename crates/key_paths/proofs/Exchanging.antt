-- another column of its demand becomes key
use Rattle.std.proofs.Common.{◌≡◌, ◌≢◌, ℕ, List, true, false, pos, length, get_or, slice_get, slice_set, cond, eqb, ◌<◌, ◌+◌, ◌^◌, refl, sym, ap, ◌∙◌, subst, arith, ⊎_elim, unsigned_abs, length-set, ℤ, ◌+ℤ◌, ◌-ℤ◌, ◌*ℤ◌, ◌≤ℤ◌, get_or-set_same, get_or-set_other}
use Rattle.net_core.proofs.Library.{cases_eq, cases_lt, ints, get_or_past}
use Rattle.checked_fraction.specs.Terms.{num, IsNarrow, IsReduced}
use Rattle.plan_terms.specs.Terms.{RouteColumn}
use Rattle.simplex_law.{specs.Terms.{dot, unit_vector, ColumnOf, IsPick}, proofs.Lemmas.{minus_left, sum-same, dot-same, unit-same}}
use Rattle.simplex_core.specs.Terms.{nums_of, nums_at, den_of, den_at}
use Rattle.key_law.{specs.Terms.{swap, key_part, left_column, full_prices, key_nums, role_nums, IsKept, IsExchanged}, proofs.Lemmas.{kept_value_nonneg, kept_value_low, new_difference, exchanged, swap_first, swap_second, different, key_at, swap_other, exchanged_pick, exchanged_product, exchanged_prices, some_key_rows}}
use Rattle.key_rows.{specs.Terms.{IsShapedBasis, IsColumnNamed, IsKeyed, amounts, less_rows, IsOwn, demand_in, links_in, column_name, key_name, key_links, left_uses, own_entry, owner_in, path_uses, IsNameWithin}, specs.declared.keyed.Keyed.Keyed, proofs.Columns.{owner_entry, times_are, have_weights}}
use Rattle.key_paths.{specs.inner.Held.{IsNameOf, IsHeld, IsEntering, HaveProducts}, specs.inner.Turning.{key_takes, with_numbers, IsRoleSwap}, proofs.Holding.{den_narrow, bound_narrow, held_packing, held_columns, key_named, key_own, left_low, left_of_name}, proofs.Named.{uses_path, own_owner, IsNamedColumn}}

swap_in : (a b r m : ℕ) → a < m → b < m → r < m → swap a b r < m
swap_in a b r m la lb lr =
    elim (eqb a r) as (λ t. cond t b (cond (eqb b r) a r) < m) [ true ↦ lb | false ↦ elim (eqb b r) as (λ t. cond t a r < m) [ true ↦ la | false ↦ lr ] ]

times_same : {x y u v : ℤ} → x ≡ y → u ≡ v → x *ℤ u ≡ y *ℤ v
times_same {x} {y} {u} {v} e f = ap (λ z. z *ℤ u) e ∙ ap (λ z. y *ℤ z) f

module _ {links demands : ℕ} {bound : ℕ → ℤ} {basis : ℕ → ColumnOf RouteColumn} {place role : ℕ → ℕ} {b : Keyed} {name : RouteColumn} {c : ColumnOf RouteColumn}
    (i d : ℕ) (e : IsEntering links demands bound basis place role b name c (links + d)) (li : i < links) (own : IsOwn b.owners d i) (s : Keyed) (w : IsRoleSwap b i d s) where
  abbrev h : IsHeld links demands bound basis place role b
  h = e.held

  abbrev next_place : ℕ → ℕ
  next_place r = place (swap i (links + d) r)

  abbrev next_role : ℕ → ℕ
  next_role j = swap i (links + d) (role j)

  low : d < demands
  low = omega (arith, e.inside)

  rows_are : length b.rows ≡ links
  rows_are = h.keyed.shaped.rows

  key_row_is : IsReduced links (key_nums links demands basis place (nums_at b.rows) (num w.key_row.weights) d) w.key_row.all (num w.row.nums) w.row.den
  key_row_is =
      let red = subst (λ n. IsReduced n (less_rows b.rows b.owners w.key_row.weights d n) w.key_row.all (num w.row.nums) w.row.den) rows_are w.key_row.reduced in
      record {
        positive = red.positive;
        same = λ k lk. red.same k lk ∙ ap (λ z. z *ℤ w.row.den) (less_is k);
        lowest = red.lowest;
      }
    where
      less_is : (k : ℕ) → less_rows b.rows b.owners w.key_row.weights d links k ≡ key_nums links demands basis place (nums_at b.rows) (num w.key_row.weights) d k
      less_is k = ap (λ z. pos 0 -ℤ z) (sum-same links _ _ (λ j lj. ap (λ z. z *ℤ nums_at b.rows j k) (sym (times_are h.keyed w.key_row.weights d j low lj))))

  pub is_exchanged : IsExchanged links demands basis place i d (nums_at b.rows) (nums_at s.rows) (den_at b.rows) (den_at s.rows) (num w.key_row.weights) w.key_row.all
  is_exchanged = record {
    row_in = li;
    demand_in = low;
    owned = λ f lf. owner_entry h.keyed i f li lf ∙ ap (λ o. unit_vector o f) own;
    weights = have_weights h.keyed w.key_row.weights w.key_row.all d low w.key_row.are;
    positive = w.key_row.are.positive;
    row = subst (λ o. IsReduced links (key_nums links demands basis place (nums_at b.rows) (num w.key_row.weights) d) w.key_row.all (num (nums_of o)) (den_of o)) (sym w.at) key_row_is;
    rest = λ j k lj ne lk. ap (λ o. num (nums_of o) k) (w.others j ne);
    rest_den = λ j lj ne. ap den_of (w.others j ne);
  }

  kept : IsKept links demands bound basis next_place next_role (nums_at s.rows) (den_at s.rows) (num b.prices.nums) b.prices.den
  kept = exchanged h.keyed.kept is_exchanged

  -- places, and the names there
  placed : (r : ℕ) → r < links + demands → get_or s.places r 0 ≡ next_place r
  placed r l = w.places r (omega (arith, l, h.keyed.shaped.places))
      ∙ (ap (λ n. get_or b.places (swap i (n + d) r) 0) rows_are ∙ h.keyed.placed (swap i (links + d) r) (swap_in i (links + d) r (links + demands) (omega (arith, li)) e.inside l))

  -- the new key
  new_place : next_place (links + d) ≡ place i
  new_place = ap place (swap_second i (links + d) (different h.keyed.kept is_exchanged))

  row_in_place : place i < links + demands
  row_in_place = h.keyed.kept.roles.place_in i (omega (arith, li))

  row_named : IsColumnNamed links demands (column_name b.names (place i)) (basis (place i))
  row_named = h.keyed.named (place i) row_in_place

  row_own : own_entry (column_name b.names (place i)) d ≡ pos 1
  row_own = sym (row_named.demand d low) ∙ (is_exchanged.owned d low ∙ unit-same d)

  old_takes : (k : ℕ) → k < links → key_takes b d k ≡ bound (links + d) *ℤ key_part links demands basis place d k
  old_takes k lk = subst (λ n. num b.bounds (n + d) *ℤ path_uses (links_in (key_name b.names b.places n d)) k ≡ bound (links + d) *ℤ key_part links demands basis place d k) (sym rows_are)
      (times_same (h.keyed.bounds (links + d) e.inside) (sym ((key_named h d low).link k lk ∙ uses_path (key_name b.names b.places links d) d (key_own h d low) k)))

  new_name : column_name s.names (get_or s.places (length s.rows + d) 0) ≡ column_name b.names (place i)
  new_name = ap (λ xs. column_name xs (get_or s.places (length s.rows + d) 0)) w.names
      ∙ (ap (λ n. column_name b.names (get_or s.places (n + d) 0)) (w.rows ∙ rows_are) ∙ ap (λ p. column_name b.names p) (placed (links + d) e.inside ∙ new_place))

  new_takes : (k : ℕ) → k < links → key_takes s d k ≡ bound (links + d) *ℤ key_part links demands basis next_place d k
  new_takes k lk = times_same
      (ap (λ xs. num xs (length s.rows + d)) w.bounds ∙ (ap (λ n. num b.bounds (n + d)) (w.rows ∙ rows_are) ∙ h.keyed.bounds (links + d) e.inside))
      (ap (λ x. path_uses (links_in x) k) new_name ∙ (sym (row_named.link k lk ∙ uses_path (column_name b.names (place i)) d row_own k) ∙ ap (λ p. (basis p).entry k) (sym new_place)))

  pub rest_is : (k : ℕ) → k < links → num s.rest k ≡ left_column links demands basis next_place bound k
  rest_is k lk = given (bound (links + d)) (key_part links demands basis place d k) (key_part links demands basis next_place d k) (w.rest k) (h.keyed.rest k lk) (old_takes k lk) (new_takes k lk)
      (new_difference links demands (key_part links demands basis place) (key_part links demands basis next_place) d low (λ x y le ne. ap (λ p. (basis p).entry y) (key_at h.keyed.kept is_exchanged x le ne)) bound k)
    where
      given : {r o t u l n : ℤ} (v x y : ℤ) → r ≡ (o +ℤ t) -ℤ u → o ≡ l → t ≡ v *ℤ x → u ≡ v *ℤ y → n ≡ l -ℤ (v *ℤ (y -ℤ x)) → r ≡ n
      given {r} {o} {t} {u} {l} {n} v x y a f g q m = omega (arith, ints, a, f, g, q, m, minus_left y x v)

  pub rest_less : (k : ℕ) → unsigned_abs (num s.rest k) < 2 ^ 76
  rest_less k = ⊎_elim
      (λ lk. subst (λ x. unsigned_abs x < 2 ^ 76) (sym (rest_is k lk))
      (left_low links demands bound basis next_place h.few (λ r l. (h.positive r l, bound_narrow h r l)) (held_columns h) kept.roles.place_in k lk))
      (λ le. subst (λ x. unsigned_abs x < 2 ^ 76) (sym (get_or_past s.rest k (pos 0) (omega (arith, le, h.keyed.shaped.rest, w.rest_count)))) (omega (arith, ints)))
      (cases_lt k links)

  -- the lists after it
  pub shaped : IsShapedBasis links demands s
  shaped = let o = h.keyed.shaped in record {
    names = ap length w.names ∙ o.names;
    places = w.count ∙ o.places;
    owners = ap length w.owners ∙ o.owners;
    rows = w.rows ∙ o.rows;
    rectangle = λ j l. ⊎_elim
        (λ f. subst (λ y. length (nums_of (slice_get s.rows y)) ≡ links) (sym f) (ap (λ x. length (nums_of x)) w.at ∙ (w.size ∙ rows_are)))
        (λ ne. ap (λ x. length (nums_of x)) (w.others j ne) ∙ o.rectangle j (omega (arith, l, w.rows)))
        (cases_eq j i);
    prices = ap (λ p. length p.nums) w.prices ∙ o.prices;
    duals = ap length w.duals ∙ o.duals;
    bounds = ap length w.bounds ∙ o.bounds;
    rest = w.rest_count ∙ o.rest;
    values = ap length w.values ∙ o.values;
    products = ap length w.products ∙ o.products;
    narrow_bounds = λ k. subst (λ xs. IsNarrow (num xs k)) (sym w.bounds) (o.narrow_bounds k);
    narrow_duals = λ k. subst (λ xs. IsNarrow (num xs k)) (sym w.duals) (o.narrow_duals k);
    inside = λ r l. subst (λ x. x < links + demands) (sym (placed r l)) (kept.roles.place_in r l);
    within = λ j l. subst (λ xs. IsNameWithin links (column_name xs j)) (sym w.names) (o.within j l);
    short = o.short;
  }

  -- the value of row i, by what the keys leave
  value_is : dot links (nums_at s.rows i) (num s.rest) ≡ dot links (nums_at s.rows i) (left_column links demands basis next_place bound)
  value_is = dot-same links (nums_at s.rows i) (nums_at s.rows i) _ _ (λ k lk. refl) (λ k lk. rest_is k lk)

  pub value_high : pos 0 ≤ℤ dot links (nums_at s.rows i) (num s.rest)
  value_high = subst (λ x. pos 0 ≤ℤ x) (sym value_is) (kept_value_nonneg (IsNamedColumn links demands) kept i li)

  pub value_less : unsigned_abs (dot links (nums_at s.rows i) (num s.rest)) < 2 ^ 124
  value_less = subst (λ x. unsigned_abs x < 2 ^ 124) (sym value_is) (kept_value_low (IsNamedColumn links demands) kept i li (held_packing h) (held_columns h) (den_narrow (slice_get s.rows i)))

  module _ (values : List ℕ) (products : List ℤ) (v : ℕ) (p : ℤ) (is_values : values ≡ slice_set s.values i v) (is_products : products ≡ slice_set s.products i p)
      (is_v : pos v ≡ dot links (nums_at s.rows i) (num s.rest))
      (is_p : p ≡ dot links (nums_at s.rows i) (left_uses name (key_links s.names s.places links (demand_in name)))) where
    abbrev next : Keyed
    next = with_numbers s values products

    next_shaped : IsShapedBasis links demands next
    next_shaped = record {
      names = shaped.names;
      places = shaped.places;
      owners = shaped.owners;
      rows = shaped.rows;
      rectangle = shaped.rectangle;
      prices = shaped.prices;
      duals = shaped.duals;
      bounds = shaped.bounds;
      rest = shaped.rest;
      values = ap length is_values ∙ (length-set s.values i v ∙ shaped.values);
      products = ap length is_products ∙ (length-set s.products i p ∙ shaped.products);
      narrow_bounds = shaped.narrow_bounds;
      narrow_duals = shaped.narrow_duals;
      inside = shaped.inside;
      within = shaped.within;
      short = shaped.short;
    }

    owned : (j : ℕ) → j < links → get_or s.owners j 0 ≡ owner_in demands (column_name s.names (next_place j))
    owned j lj = ap (λ xs. get_or xs j 0) w.owners ∙ (⊎_elim
        (λ f. subst (λ y. get_or b.owners y 0 ≡ owner_in demands (column_name b.names (next_place y))) (sym f)
        (own ∙ sym (ap (λ x. owner_in demands (column_name b.names (place x))) (swap_first i (links + d)) ∙ own_owner (column_name b.names (place (links + d))) demands d key_own_at)))
        (λ ne. h.keyed.owned j lj ∙ sym (ap (λ x. owner_in demands (column_name b.names x)) (row_place j lj ne)))
        (cases_eq j i) ∙ ap (λ xs. owner_in demands (column_name xs (next_place j))) (sym w.names))
      where
        key_own_at : own_entry (column_name b.names (place (links + d))) d ≡ pos 1
        key_own_at = subst (λ x. own_entry (column_name b.names x) d ≡ pos 1) (h.keyed.placed (links + d) e.inside) (key_own h d low)

        row_place : (j : ℕ) → j < links → j ≢ i → next_place j ≡ place j
        row_place j lj ne = ap place (swap_other i (links + d) j (λ f. ne (sym f)) (λ f. omega (arith, f, lj)))

    next_keyed : IsKeyed links demands bound basis next_place next_role next
    next_keyed = record {
      shaped = next_shaped;
      named = λ j l. subst (λ xs. IsColumnNamed links demands (column_name xs j) (basis j)) (sym w.names) (h.keyed.named j l);
      placed = placed;
      owned = owned;
      kept = subst (λ q. IsKept links demands bound basis next_place next_role (nums_at s.rows) (den_at s.rows) (num q.nums) q.den) (sym w.prices) kept;
      bounds = λ r l. ap (λ xs. num xs r) w.bounds ∙ h.keyed.bounds r l;
      rest = rest_is;
      values = λ j lj. ⊎_elim
          (λ f. subst (λ y. amounts values y ≡ dot links (nums_at s.rows y) (left_column links demands basis next_place bound)) (sym f)
          (ap (λ xs. amounts xs i) is_values ∙ (ap pos (get_or-set_same s.values i v 0 (omega (arith, li, shaped.values))) ∙ (is_v ∙ value_is))))
          (λ ne. ap (λ xs. amounts xs j) is_values ∙ (ap pos (get_or-set_other s.values i j v 0 ne) ∙ (ap (λ xs. amounts xs j) w.values
          ∙ (h.keyed.values j lj ∙ sym (exchanged_product h.keyed.kept is_exchanged bound j lj ne)))))
          (cases_eq j i);
      duals = λ x lx. ap (λ xs. num xs x) w.duals ∙ (h.keyed.duals x lx ∙ (sym (exchanged_prices h.keyed.kept is_exchanged (links + x) (omega (arith, lx)))
          ∙ ap (λ q. full_prices links demands basis next_place (num q.nums) q.den (links + x)) (sym w.prices)));
    }

    next_products : HaveProducts links products (nums_at s.rows) (left_column links demands basis next_place c.entry)
    next_products j lj = ⊎_elim
        (λ f. subst (λ y. num products y ≡ dot links (nums_at s.rows y) (left_column links demands basis next_place c.entry)) (sym f)
        (ap (λ xs. num xs i) is_products ∙ (get_or-set_same s.products i p (pos 0) (omega (arith, li, shaped.products)) ∙ (is_p
        ∙ dot-same links (nums_at s.rows i) (nums_at s.rows i) _ _ (λ k lk. refl) (λ k lk. sym (left_of_name next_keyed name c e.sound e.named k lk))))))
        (λ ne. ap (λ xs. num xs j) is_products ∙ (get_or-set_other s.products i j p (pos 0) ne ∙ (ap (λ xs. num xs j) w.products
        ∙ (e.products j lj ∙ sym (exchanged_product h.keyed.kept is_exchanged c.entry j lj ne)))))
        (cases_eq j i)

    pub next_entering : IsEntering links demands bound basis next_place next_role next name c i
    next_entering =
        let o = some_key_rows kept in
        let picked = exchanged_pick h.keyed.kept e.key_rows is_exchanged o.2 c (links + d) refl e.pick in
        record {
          held = record {
            keyed = next_keyed;
            few = h.few;
            positive = h.positive;
            names = λ j l. subst (λ xs. IsNameOf links demands (column_name xs j)) (sym w.names) (h.names j l);
          };
          named = e.named;
          sound = e.sound;
          products = next_products;
          inside = omega (arith, li);
          of_keys = o.0;
          of_den = o.1;
          key_rows = o.2;
          pick = subst (λ q. IsPick (links + demands) bound (λ j. role_nums links demands basis next_place (nums_at s.rows) (den_at s.rows) o.0 o.1 (next_role j))
              (full_prices links demands basis next_place (num q.nums) q.den) q.den c (next_place i)) (sym w.prices) picked;
        }
