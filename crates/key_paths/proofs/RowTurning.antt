-- a column enters for that of a row
use Rattle.std.proofs.Common.{◌≡◌, ◌≢◌, ℕ, List, pos, length, get_or, slice_get, slice_set, cond, ◌<◌, ◌+◌, ◌^◌, refl, sym, ap, ◌∙◌, subst, arith, ◌⊎◌, ⊎_elim, unsigned_abs, length-set, ℤ, ◌-ℤ◌, ◌*ℤ◌, ◌<ℤ◌, ◌≤ℤ◌, ne_eqb, get_or-set_same, get_or-set_other}
use Rattle.net_core.proofs.Library.{*ℤ_comm, dvd-mul_right, ◌∣◌, cases_eq, ints, unsigned_abs-mul}
use Rattle.checked_fraction.{specs.Terms.{num, IsNarrow, IsInLowestTerms, IsReduced, combined, IsTooWide}, specs.declared.wide.WideNumber.WideNumber, proofs.Products.{regroup, cancelled}}
use Rattle.plan_terms.specs.Terms.{RouteColumn, DemandSlack, Row as RowOf, Product}
use Rattle.simplex_law.{specs.Terms.{IsWide, HoldsRow, HoldsProduct, dot, put, ColumnOf}, proofs.Lemmas.{multiple, sum-same, dot-same, unit-same}}
use Rattle.simplex_core.specs.Terms.{nums_at, den_at, AreTurned, IsWideRow}
use Rattle.key_law.{specs.Terms.{left_column, full_prices, IsKept, IsBlockTurned}, proofs.Lemmas.{kept_value_nonneg, kept_value_low, block_turned, some_pivot, wide_demand, wide_cost, wide_kept_product, wide_turned, wide_turned_prices}}
use Rattle.key_rows.{specs.Terms.{IsShapedBasis, IsColumnNamed, amounts, column_name, key_name, owner_in, key_dual, IsNameWithin}, specs.declared.keyed.Keyed.Keyed}
use Rattle.key_paths.{specs.inner.Held.{IsNameOf, AreColumnNames, IsHeld, IsEntering, IsPriced}, specs.inner.Outcomes.{wide_place, IsProductPlace, IsWideBasis}, specs.inner.Turning.{AreRowsTurned, IsWideTurn}, specs.declared.turn_rows.WideTurn.WideTurn, specs.declared.turn_rows.WideTurn.TheVariants.{Prices, Row as RowAt}, proofs.Holding.{den_narrow, held_packing, held_columns, held_names, rest_low}, proofs.Named.{named_price, put_each, IsNamedColumn}}

-- a row in lowest terms that is reduced again stays
reduced_same : (n : ℕ) (u v : ℕ → ℤ) (d e : ℤ) → pos 0 <ℤ d → IsInLowestTerms n u d → IsReduced n u d v e → (k : ℕ) → k < n → v k ≡ u k
reduced_same n u v d e positive low r k lk =
    let f = multiple n u d v e positive r in
    let g = f.0 in
    let m = f.1 in
    let size : unsigned_abs g ≡ 1 = low (unsigned_abs g) (divides g d e m.of_den) (λ x lx. divides g (u x) (v x) (m.of_nums x lx)) in
    let one : g ≡ pos 1 = unit g m.positive size in
    once (v k) ∙ (ap (λ x. x *ℤ v k) (sym one) ∙ sym (m.of_nums k lk))
  where
    divides : (g x y : ℤ) → x ≡ g *ℤ y → unsigned_abs g ∣ unsigned_abs x
    divides g x y e = subst (λ z. unsigned_abs g ∣ z) (sym (ap unsigned_abs e ∙ unsigned_abs-mul g y)) (dvd-mul_right (unsigned_abs g) (unsigned_abs y))

    unit : (g : ℤ) → pos 0 <ℤ g → unsigned_abs g ≡ 1 → g ≡ pos 1
    unit g p e = omega (arith, ints, p, e)

    once : (x : ℤ) → x ≡ pos 1 *ℤ x
    once x = omega (arith, ints)

-- a row whose product is 0 stays in a turn
turned_same : (n : ℕ) (u w v : ℕ → ℤ) (p d q e : ℤ) → p ≡ pos 0 → pos 0 <ℤ d → pos 0 <ℤ q → IsInLowestTerms n u d → IsReduced n (combined u p w q) (d *ℤ q) v e → (k : ℕ) → k < n → v k ≡ u k
turned_same n u w v p d q e none pd pq low r = reduced_same n u v d e pd low (record {
  positive = r.positive;
  same = λ k l. cancelled q (v k *ℤ d) (u k *ℤ e) pq (left k ∙ (r.same k l ∙ right k));
  lowest = r.lowest;
})
  where
    left : (k : ℕ) → q *ℤ (v k *ℤ d) ≡ v k *ℤ (d *ℤ q)
    left k = *ℤ_comm q (v k *ℤ d) ∙ regroup (v k) d q

    plain : (x y : ℤ) → x -ℤ (pos 0 *ℤ y) ≡ x
    plain x y = omega (arith, ints)

    right : (k : ℕ) → combined u p w q k *ℤ e ≡ q *ℤ (u k *ℤ e)
    right k = ap (λ z. ((u k *ℤ q) -ℤ (z *ℤ w k)) *ℤ e) none ∙ (ap (λ z. z *ℤ e) (plain (u k *ℤ q) (w k) ∙ *ℤ_comm (u k) q) ∙ regroup q (u k) e)

module _ {links demands : ℕ} {bound : ℕ → ℤ} {basis : ℕ → ColumnOf RouteColumn} {place role : ℕ → ℕ} {b : Keyed} {name : RouteColumn} {c : ColumnOf RouteColumn}
    (r : ℕ) (x : ℤ) (e : IsEntering links demands bound basis place role b name c r) (priced : IsPriced links demands basis place b c x) (rl : r < links) where
  abbrev h : IsHeld links demands bound basis place role b
  h = e.held

  abbrev after : ℕ → ColumnOf RouteColumn
  after = put basis (place r) c

  abbrev left : ℕ → ℤ
  left = left_column links demands basis place c.entry

  abbrev q : ℤ
  q = dot links (nums_at b.rows r) left

  rows_are : length b.rows ≡ links
  rows_are = h.keyed.shaped.rows

  pivot_is : num b.products r ≡ q
  pivot_is = e.products r rl

  pub pivot : pos 0 <ℤ num b.products r
  pivot = subst (λ y. pos 0 <ℤ y) (sym pivot_is) (some_pivot h.keyed.kept e.key_rows c r e.inside e.pick rl)

  place_in : place r < links + demands
  place_in = h.keyed.kept.roles.place_in r e.inside

  -- prices or a row of the next basis that are too wide
  abbrev wide_by : ℕ → (ℕ → ℤ) → ℤ → ℤ → ℤ → Type 0
  wide_by n u p d y = (wide : WideNumber) × IsTooWide n (combined u p (nums_at b.rows r) y) (d *ℤ y) wide

  pub wide_prices : wide_by (length b.rows) (num b.prices.nums) x b.prices.den (num b.products r) → HoldsRow (links + demands) after (links + demands)
  wide_prices too =
      let here = subst (λ n. wide_by n (num b.prices.nums) x b.prices.den (num b.products r)) rows_are too in
      let over = subst (λ y. wide_by links (num b.prices.nums) x b.prices.den y) pivot_is here in
      let all = subst (λ y. wide_by links (num b.prices.nums) y b.prices.den q) priced over in
      wide_turned_prices (IsNamedColumn links demands) h.keyed.kept e.key_rows c r e.inside e.pick rl all.0 all.1

  pub wide_row : (i : ℕ) → IsWideRow (length b.rows) b.rows b.products r i → HoldsRow (links + demands) after (place i)
  wide_row i too =
      let here = subst (λ n. IsWideRow n b.rows b.products r i) rows_are too in
      let over = subst (λ y. wide_by links (nums_at b.rows i) (num b.products i) (den_at b.rows i) y) pivot_is here.2 in
      let all = subst (λ y. wide_by links (nums_at b.rows i) y (den_at b.rows i) q) (e.products i here.0) over in
      wide_turned (IsNamedColumn links demands) h.keyed.kept e.key_rows c r e.inside e.pick rl i all.0 here.0 here.1 all.1

  -- a product with the column that is too wide, of a row of a link or of the objective row
  pub product_wide : (k p : ℕ) → ((k ≡ links) × IsWide x) ⊎ ((k < links) × IsWide (num b.products k)) → IsProductPlace b.places links k p → IsWideBasis links demands c basis b.names (Product p name)
  product_wide k p found at = record {
    named = held_names h;
    holds = ⊎_elim
        (λ f. subst (λ n. HoldsProduct (links + demands) (λ y. y ≡ c) basis p n) e.named.named
        (subst (λ y. HoldsProduct (links + demands) (λ z. z ≡ c) basis y c.name) (sym (last f.0 at)) (wide_cost (λ y. y ≡ c) h.keyed.kept c refl (subst IsWide priced f.1))))
        (λ f. subst (λ n. HoldsProduct (links + demands) (λ y. y ≡ c) basis p n) e.named.named
        (subst (λ y. HoldsProduct (links + demands) (λ z. z ≡ c) basis y c.name) (sym (row f.0 at)) (wide_kept_product (λ y. y ≡ c) h.keyed.kept k c f.0 refl (subst IsWide (e.products k f.0) f.1))))
        found;
  }
    where
      last : k ≡ links → IsProductPlace b.places links k p → p ≡ links + demands
      last f at = ⊎_elim (λ g. absurd (omega (arith, f, g.0))) (λ g. g.1 ∙ h.keyed.shaped.places) at

      row : k < links → IsProductPlace b.places links k p → p ≡ place k
      row l at = ⊎_elim (λ g. g.1 ∙ h.keyed.placed k (omega (arith, l))) (λ g. absurd (omega (arith, l, g.0))) at

  -- columns and names after it
  apart : (s : ℕ) → s < links + demands → s ≢ r → place s ≢ place r
  apart s l ne f = ne (sym (h.keyed.kept.roles.there s l) ∙ (ap role f ∙ h.keyed.kept.roles.there r e.inside))

  same_column : (s : ℕ) → s < links + demands → s ≢ r → after (place s) ≡ basis (place s)
  same_column s l ne = ap (λ t. cond t c (basis (place s))) (ne_eqb (place r) (place s) (λ f. apart s l ne (sym f)))

  same_key : (d : ℕ) → d < demands → after (place (links + d)) ≡ basis (place (links + d))
  same_key d ld = same_column (links + d) (omega (arith, ld)) (λ f. omega (arith, f, rl))

  left_same : (a : ℕ → ℤ) (k : ℕ) → left_column links demands after place a k ≡ left_column links demands basis place a k
  left_same a k = ap (λ s. a k -ℤ s) (sum-same demands _ _ (λ d ld. ap (λ y. a (links + d) *ℤ y.entry k) (same_key d ld)))

  next_columns : (j : ℕ) → j < links + demands → IsNamedColumn links demands (after j)
  next_columns j l = put_each (λ z y. IsNamedColumn links demands y) b.names basis (place r) name c j (omega (arith, h.keyed.shaped.names, place_in)) (name, e.sound, e.named) (held_columns h j l)

  module _ (names : List RouteColumn) (is_names : names ≡ slice_set b.names (get_or b.places r 0) name) where
    named_at : names ≡ slice_set b.names (place r) name
    named_at = is_names ∙ ap (λ y. slice_set b.names y name) (h.keyed.placed r e.inside)

    next_each : (Q : RouteColumn → ColumnOf RouteColumn → Type 0) (j : ℕ) → Q name c → Q (column_name b.names j) (basis j) → Q (column_name names j) (after j)
    next_each Q j here there = subst (λ y. Q (column_name y j) (after j)) (sym named_at) (put_each Q b.names basis (place r) name c j (omega (arith, h.keyed.shaped.names, place_in)) here there)

    pub next_names : AreColumnNames links demands after names
    next_names = record {
      count = ap length named_at ∙ (length-set b.names (place r) name ∙ h.keyed.shaped.names);
      each = λ j l. next_each (λ z y. IsColumnNamed links demands z y) j e.named (h.keyed.named j l);
    }

  -- what is too wide of the next basis
  pub turn_wide : (mid : Keyed) (wide : WideTurn) → mid.names ≡ slice_set b.names (get_or b.places r 0) name → mid.places ≡ b.places → IsWideTurn b x r wide
      → IsWideBasis links demands c after mid.names (wide_place mid wide)
  turn_wide mid Prices is_names is_places too =
      let named = next_names mid.names is_names in
      record { named = named; holds = subst (λ i. HoldsRow (links + demands) after i) (sym named.count) (wide_prices too) }
  turn_wide mid (RowAt i) is_names is_places too =
      record {
        named = next_names mid.names is_names;
        holds = subst (λ p. HoldsRow (links + demands) after p) (sym (ap (λ xs. get_or xs i 0) is_places ∙ h.keyed.placed i (omega (arith, too.0, rows_are)))) (wide_row i too);
      }

  -- rows and prices of the next basis
  module _ (mid : Keyed) (t : AreRowsTurned b name x r mid) where
    turned : AreTurned links b.rows mid.rows b.products r
    turned = subst (λ n. AreTurned n b.rows mid.rows b.products r) rows_are t.rows

    is_turned : IsBlockTurned links demands basis place c r (nums_at b.rows) (nums_at mid.rows) (den_at b.rows) (den_at mid.rows) (num b.prices.nums) (num mid.prices.nums) b.prices.den mid.prices.den
    is_turned = record {
      others = λ i l ne. subst (λ y. IsReduced links (combined (nums_at b.rows i) y (nums_at b.rows r) q) (den_at b.rows i *ℤ q) (nums_at mid.rows i) (den_at mid.rows i)) (e.products i l)
          (subst (λ y. IsReduced links (combined (nums_at b.rows i) (num b.products i) (nums_at b.rows r) y) (den_at b.rows i *ℤ y) (nums_at mid.rows i) (den_at mid.rows i)) pivot_is (turned.others i l ne));
      pivot = subst (λ y. IsReduced links (nums_at b.rows r) y (nums_at mid.rows r) (den_at mid.rows r)) pivot_is turned.pivot;
      prices_are = subst (λ y. IsReduced links (combined (num b.prices.nums) y (nums_at b.rows r) q) (b.prices.den *ℤ q) (num mid.prices.nums) mid.prices.den) priced
          (subst (λ y. IsReduced links (combined (num b.prices.nums) x (nums_at b.rows r) y) (b.prices.den *ℤ y) (num mid.prices.nums) mid.prices.den) pivot_is
          (subst (λ n. IsReduced n (combined (num b.prices.nums) x (nums_at b.rows r) (num b.products r)) (b.prices.den *ℤ num b.products r) (num mid.prices.nums) mid.prices.den) rows_are t.prices));
    }

    kept : IsKept links demands bound after place role (nums_at mid.rows) (den_at mid.rows) (num mid.prices.nums) mid.prices.den
    kept = block_turned h.keyed.kept e.key_rows c r e.inside e.pick rl is_turned

    rest_is : (k : ℕ) → k < links → num mid.rest k ≡ left_column links demands after place bound k
    rest_is k lk = ap (λ xs. num xs k) t.rest ∙ (h.keyed.rest k lk ∙ sym (left_same bound k))

    pub rest_less : (k : ℕ) → unsigned_abs (num mid.rest k) < 2 ^ 76
    rest_less k = subst (λ xs. unsigned_abs (num xs k) < 2 ^ 76) (sym t.rest) (rest_low h k)

    value_is : (i : ℕ) → dot links (nums_at mid.rows i) (num mid.rest) ≡ dot links (nums_at mid.rows i) (left_column links demands after place bound)
    value_is i = dot-same links (nums_at mid.rows i) (nums_at mid.rows i) _ _ (λ k lk. refl) rest_is

    pub value_high : (i : ℕ) → i < links → pos 0 ≤ℤ dot links (nums_at mid.rows i) (num mid.rest)
    value_high i l = subst (λ y. pos 0 ≤ℤ y) (sym (value_is i)) (kept_value_nonneg (IsNamedColumn links demands) kept i l)

    pub value_less : (i : ℕ) → i < links → unsigned_abs (dot links (nums_at mid.rows i) (num mid.rest)) < 2 ^ 124
    value_less i l = subst (λ y. unsigned_abs y < 2 ^ 124) (sym (value_is i)) (kept_value_low (IsNamedColumn links demands) kept i l (held_packing h) next_columns (den_narrow (slice_get mid.rows i)))

    -- the value of a row that has no product with the column
    pub value_kept : (i : ℕ) → i < links → num mid.products i ≡ pos 0 → amounts mid.values i ≡ dot links (nums_at mid.rows i) (num mid.rest)
    value_kept i l none =
        let zero : num b.products i ≡ pos 0 = ap (λ xs. num xs i) (sym t.products) ∙ none in
        let other : i ≢ r = λ f. contra (subst (λ y. num b.products y ≡ pos 0) f zero) pivot in
        ap (λ xs. amounts xs i) t.values ∙ (h.keyed.values i l
        ∙ dot-same links (nums_at b.rows i) (nums_at mid.rows i) _ _
        (λ k lk. sym (turned_same links (nums_at b.rows i) (nums_at b.rows r) (nums_at mid.rows i) (dot links (nums_at b.rows i) left) (den_at b.rows i) q (den_at mid.rows i)
        (sym (e.products i l) ∙ zero) (h.keyed.kept.over i l) (subst (λ y. pos 0 <ℤ y) pivot_is pivot) (h.keyed.kept.lowest i l) (is_turned.others i l other) k lk))
        (λ k lk. sym (h.keyed.rest k lk) ∙ ap (λ xs. num xs k) (sym t.rest)))
      where
        contra : {y : ℤ} → y ≡ pos 0 → pos 0 <ℤ y → ⊥
        contra {y} f g = omega (arith, ints, f, g)

    pub shaped : IsShapedBasis links demands mid
    shaped = let s = h.keyed.shaped in record {
      names = (next_names mid.names t.names).count;
      places = ap length t.places ∙ s.places;
      owners = ap length t.owners ∙ (length-set b.owners r (owner_in (length b.duals) name) ∙ s.owners);
      rows = turned.count ∙ rows_are;
      rectangle = λ i l. turned.sizes i (omega (arith, l, turned.count, rows_are));
      prices = t.length_prices ∙ rows_are;
      duals = ap length t.duals ∙ s.duals;
      bounds = ap length t.bounds ∙ s.bounds;
      rest = ap length t.rest ∙ s.rest;
      values = ap length t.values ∙ s.values;
      products = ap length t.products ∙ s.products;
      narrow_bounds = λ k. subst (λ xs. IsNarrow (num xs k)) (sym t.bounds) (s.narrow_bounds k);
      narrow_duals = λ k. subst (λ xs. IsNarrow (num xs k)) (sym t.duals) (s.narrow_duals k);
      inside = λ k l. subst (λ xs. get_or xs k 0 < links + demands) (sym t.places) (s.inside k l);
      within = λ j l. next_each mid.names t.names (λ z y. IsNameWithin links z) j e.sound.within (s.within j l);
      short = s.short;
    }

    placed : (k : ℕ) → k < links + demands → get_or mid.places k 0 ≡ place k
    placed k l = ap (λ xs. get_or xs k 0) t.places ∙ h.keyed.placed k l

    -- prices of demands by the keys
    key_is : (d : ℕ) → d < demands → IsColumnNamed links demands (key_name mid.names mid.places links d) (after (place (links + d)))
    key_is d ld = subst (λ p. IsColumnNamed links demands (column_name mid.names p) (after (place (links + d)))) (sym (placed (links + d) (omega (arith, ld))))
        ((next_names mid.names t.names).each (place (links + d)) (h.keyed.kept.roles.place_in (links + d) (omega (arith, ld))))

    pub price_is : (d : ℕ) → d < demands
        → full_prices links demands after place (num mid.prices.nums) mid.prices.den (links + d) ≡ key_dual links (num mid.prices.nums) mid.prices.den (key_name mid.names mid.places links d)
    price_is d ld = named_price links demands after place (num mid.prices.nums) mid.prices.den d (key_name mid.names mid.places links d) ld (key_is d ld)
        (sym ((key_is d ld).demand d ld) ∙ (kept.keys d d ld ld ∙ unit-same d))

    pub demand_wide : (d : ℕ) → d < demands → IsWide (key_dual links (num mid.prices.nums) mid.prices.den (key_name mid.names mid.places links d))
        → IsWideBasis links demands c after mid.names (RowOf (length mid.names))
    demand_wide d ld wide =
        let named = next_names mid.names t.names in
        record {
          named = named;
          holds = subst (λ i. HoldsRow (links + demands) after i) (sym named.count) (wide_demand (IsNamedColumn links demands) kept d ld (subst IsWide (sym (price_is d ld)) wide));
        }

    module _ (values : List ℕ) (duals : List ℤ) (values_count : length values ≡ links) (duals_count : length duals ≡ demands) (narrow : (d : ℕ) → IsNarrow (num duals d))
        (are_values : (i : ℕ) → i < links → amounts values i ≡ dot links (nums_at mid.rows i) (num mid.rest))
        (are_duals : (d : ℕ) → d < demands → num duals d ≡ key_dual links (num mid.prices.nums) mid.prices.den (key_name mid.names mid.places links d)) where
      abbrev next : Keyed
      next = record { names = mid.names; places = mid.places; owners = mid.owners; rows = mid.rows; prices = mid.prices; duals = duals; bounds = mid.bounds; rest = mid.rest; values = values; products = mid.products }

      owned : (i : ℕ) → i < links → get_or mid.owners i 0 ≡ owner_in demands (column_name mid.names (place i))
      owned i l = ap (λ xs. get_or xs i 0) t.owners ∙ (⊎_elim
          (λ f. subst (λ y. get_or (slice_set b.owners r (owner_in (length b.duals) name)) y 0 ≡ owner_in demands (column_name (slice_set b.names (place r) name) (place y))) (sym f)
          (get_or-set_same b.owners r (owner_in (length b.duals) name) 0 (omega (arith, rl, h.keyed.shaped.owners)) ∙ (ap (λ n. owner_in n name) h.keyed.shaped.duals
          ∙ sym (ap (owner_in demands) (get_or-set_same b.names (place r) name (DemandSlack 0) (omega (arith, place_in, h.keyed.shaped.names)))))))
          (λ ne. get_or-set_other b.owners r i (owner_in (length b.duals) name) 0 ne ∙ (h.keyed.owned i l
          ∙ sym (ap (owner_in demands) (get_or-set_other b.names (place r) (place i) name (DemandSlack 0) (apart i (omega (arith, l)) ne)))))
          (cases_eq i r) ∙ sym (ap (λ xs. owner_in demands (column_name xs (place i))) (named_at mid.names t.names)))

      pub next_held : IsHeld links demands bound after place role next
      next_held = record {
        keyed = record {
          shaped = record {
            names = shaped.names;
            places = shaped.places;
            owners = shaped.owners;
            rows = shaped.rows;
            rectangle = shaped.rectangle;
            prices = shaped.prices;
            duals = duals_count;
            bounds = shaped.bounds;
            rest = shaped.rest;
            values = values_count;
            products = shaped.products;
            narrow_bounds = shaped.narrow_bounds;
            narrow_duals = narrow;
            inside = shaped.inside;
            within = shaped.within;
            short = shaped.short;
          };
          named = (next_names mid.names t.names).each;
          placed = placed;
          owned = owned;
          kept = kept;
          bounds = λ k l. ap (λ xs. num xs k) t.bounds ∙ h.keyed.bounds k l;
          rest = rest_is;
          values = λ i l. are_values i l ∙ value_is i;
          duals = λ d ld. are_duals d ld ∙ sym (price_is d ld);
        };
        few = h.few;
        positive = h.positive;
        names = λ j l. next_each mid.names t.names (λ z y. IsNameOf links demands z) j e.sound (h.names j l);
      }
