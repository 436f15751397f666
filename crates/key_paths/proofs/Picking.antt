-- a column that gains enters for that of the first role
use Rattle.std.proofs.Common.{◌≡◌, ℕ, ℤ, List, Some, None, length, pos, get_or, ◌+◌, ◌-ℤ◌, ◌*ℤ◌, ◌<◌, ◌≤◌, ◌^◌, inl, inr, unsigned_abs, sym, ap, ◌∙◌, subst, refl, arith, ◌<ℤ◌, ◌≤ℤ◌}
use Rattle.checked_fraction.specs.Terms.{num}
use Rattle.plan_terms.specs.Terms.{RouteColumn}
use Rattle.simplex_law.{specs.Terms.{IsInverseRow, HoldsProduct, HoldsRow, ColumnOf, dot}, proofs.Lemmas.dot-same}
use Rattle.simplex_core.specs.Terms.{nums_at, den_at}
use Rattle.key_law.{specs.Terms.{left_column, role_nums, cost, key_dot}, proofs.Lemmas.{cost_product, role_tableau, some_key_rows, role_den, wide_key_product}}
use Rattle.key_rows.{specs.Terms.{IsKeyed, IsShapedBasis, IsAsked, IsFirstRole, IsFirstOfRoles, LeaveSomething, weighted, HaveValues, HaveColumnProducts, IsWideTest, product_over, demand_in, key_links, own_entry, IsShortPath}, specs.declared.keyed.Keyed.Keyed, specs.declared.ratio_test.WideTest.WideTest, specs.declared.ratio_test.WideTest.TheVariants.{Common as TestCommon, Product as TestProduct, Row as TestRow}, proofs.Columns.{have_weights, left_nonneg}, proofs.FirstRoles.positive_again, proofs.Leavers.key_dot_is}
use Rattle.key_paths.{specs.inner.Entering.{with_products, wide_kind, IsGainingIn, IsPicked, Enters}, specs.inner.Gaining.cost_at, specs.inner.Held.{IsHeld, IsEntering, HasPriced}, specs.inner.Outcomes.{HoldsWide, ComesOf, TurnsAt}, specs.declared.turns.Turn.Turn, specs.declared.turns.Turn.TheVariants.{Again, Unbounded, Wide}, proofs.Holding.{held_names, key_short, left_of_name}, proofs.KeyEvidence.{spread_common, spread_row}}

module _ {links demands : ℕ} {bound : ℕ → ℤ} {basis : ℕ → ColumnOf RouteColumn} {place role : ℕ → ℕ} {b : Keyed} where
  -- products are room, of which a held basis asks nothing
  pub keyed_with : (products : List ℤ) → length products ≡ links → IsKeyed links demands bound basis place role b → IsKeyed links demands bound basis place role (with_products b products)
  keyed_with products count h = record {
    shaped = record {
      names = h.shaped.names;
      places = h.shaped.places;
      owners = h.shaped.owners;
      rows = h.shaped.rows;
      rectangle = h.shaped.rectangle;
      prices = h.shaped.prices;
      duals = h.shaped.duals;
      bounds = h.shaped.bounds;
      rest = h.shaped.rest;
      values = h.shaped.values;
      products = count;
      narrow_bounds = h.shaped.narrow_bounds;
      narrow_duals = h.shaped.narrow_duals;
      inside = h.shaped.inside;
      within = h.shaped.within;
      short = h.shaped.short;
    };
    named = h.named;
    placed = h.placed;
    owned = h.owned;
    kept = h.kept;
    bounds = h.bounds;
    rest = h.rest;
    values = h.values;
    duals = h.duals;
  }

  pub held_with : (products : List ℤ) → length products ≡ links → IsHeld links demands bound basis place role b → IsHeld links demands bound basis place role (with_products b products)
  held_with products count h = record { keyed = keyed_with products count h.keyed; few = h.few; positive = h.positive; names = h.names }

  -- the first role is a pick, over some rows of the keys
  pub picked_first : IsKeyed links demands bound basis place role b → (c : ColumnOf RouteColumn) (r : ℕ) → cost links demands basis place (num b.prices.nums) b.prices.den c <ℤ pos 0
      → IsFirstRole (links + demands) bound basis place c.entry (λ s. Unit {0}) (Some r) → IsPicked links demands bound basis place role b c r
  picked_first h c r gains first =
      let k = some_key_rows h.kept in
      let t = role_tableau h.kept k.2 in
      let nums : ℕ → ℕ → ℤ = λ j. role_nums links demands basis place (nums_at b.rows) (den_at b.rows) k.0 k.1 (role j) in
      let den : ℕ → ℤ = λ j. role_den links (den_at b.rows) k.1 (role j) in
      let inside = h.kept.roles.place_in r first.0 in
      let row : (j : ℕ) → j < links + demands → IsInverseRow (links + demands) basis j (nums j) (den j) = λ j l. (t.over j l, t.rows j l) in
      let some : pos 0 <ℤ dot (links + demands) (nums (place r)) c.entry =
      positive_again h.kept c.entry r first.1.0 (nums (place r)) first.1.1 (den (place r)) first.1.2 (row (place r) inside) first.1.3 in
      record {
        inside = first.0;
        of_keys = k.0;
        of_den = k.1;
        key_rows = k.2;
        pick = record {
          inside = inside;
          positive = some;
          gains = subst (λ x. x <ℤ pos 0) (sym (cost_product h.kept c)) gains;
          ratio = λ i l ne more. first.2 (role i) (h.kept.roles.role_in i l) tt (nums (place r)) (nums i) (den (place r)) (den i) (row (place r) inside)
              (subst (λ p. IsInverseRow (links + demands) basis p (nums i) (den i)) (sym (h.kept.roles.back i l)) (row i l)) some more;
        };
      }

  -- what is too wide of a key is evidence of the basis
  pub wide_test_holds : IsKeyed links demands bound basis place role b → (name : RouteColumn) (c : ColumnOf RouteColumn) → c.name ≡ name → ((d : ℕ) → d < demands → own_entry name d ≡ c.entry (links + d))
      → ((i : ℕ) → i < links → num b.products i ≡ dot links (nums_at b.rows i) (left_column links demands basis place c.entry))
      → (wide : WideTest) → IsWideTest b name wide → HoldsWide links demands c basis (wide_kind b name wide)
  wide_test_holds h name c named own have TestCommon w = spread_common h (λ y. y ≡ c) w.0 (omega (arith, w.1, h.shaped.duals)) w.2
  wide_test_holds h name c named own have (TestRow r) w =
      let ld : w.0 < demands = omega (arith, w.1, h.shaped.duals) in
      let at : r ≡ links + w.0 = w.2.0 ∙ ap (λ n. n + w.0) h.shaped.rows in
      subst (HoldsRow (links + demands) basis) (sym (ap (λ x. get_or b.places x 0) at ∙ h.placed (links + w.0) (omega (arith, ld)))) (spread_row h (λ y. y ≡ c) w.0 ld w.2.1)
  wide_test_holds h name c named own have (TestProduct r) w =
      let d = w.0 in
      let ld : d < demands = omega (arith, w.1, h.shaped.duals) in
      let at : r ≡ links + d = w.2.0 ∙ ap (λ n. n + d) h.shaped.rows in
      let step = w.2.1 in
      let same : product_over b d step.0 step.1 (own_entry name d) ≡ key_dot links demands basis place (nums_at b.rows) (num step.0) step.1 d c.entry = over_links d step.0 step.1 ld in
      subst (λ p. HoldsProduct (links + demands) (λ y. y ≡ c) basis p name) (sym (ap (λ x. get_or b.places x 0) at ∙ h.placed (links + d) (omega (arith, ld))))
      (subst (HoldsProduct (links + demands) (λ y. y ≡ c) basis (place (links + d))) named
      (wide_key_product (λ y. y ≡ c) h.kept (num step.0) step.1 d ld step.2.positive (have_weights h step.0 step.1 d ld step.2) c step.2.narrow refl
      (subst (λ x. 2 ^ 124 ≤ unsigned_abs x) same step.3)))
    where
      over_links : (d : ℕ) (weights : List ℤ) (all : ℤ) → d < demands → product_over b d weights all (own_entry name d) ≡ key_dot links demands basis place (nums_at b.rows) (num weights) all d c.entry
      over_links d weights all ld = ap (λ n. (all *ℤ own_entry name d) -ℤ weighted b.owners weights d (num b.products) n) h.shaped.rows
          ∙ key_dot_is h c.entry have weights all d (own_entry name d) (num b.products) c.entry ld (own d ld) have

-- the products that the basis holds are those with what the keys leave of the column
pub asked : (bound : ℕ → ℤ) (basis : ℕ → ColumnOf RouteColumn) (place role : ℕ → ℕ) (b : Keyed) (products : List ℤ) (name : RouteColumn) (c : ColumnOf RouteColumn) → length products ≡ length b.rows
    → HaveColumnProducts (with_products b products) name (key_links b.names b.places (length b.rows) (demand_in name))
    → IsGainingIn (length b.rows) (length b.duals) bound basis place role b name c → IsAsked bound basis place role (with_products b products) name c
asked bound basis place role b products name c count have g = record {
  keyed = keyed_with products count g.held.keyed;
  named = g.named;
  products = λ i l. have i l ∙ dot-same (length b.rows) (nums_at b.rows i) (nums_at b.rows i) _ _ (λ k lk. refl) (λ k lk. sym (left_of_name g.held.keyed name c g.sound g.named k lk));
}

-- a turn at the first role
pub entered : (links demands : ℕ) (bound : ℕ → ℤ) (basis : ℕ → ColumnOf RouteColumn) (place role : ℕ → ℕ) (b : Keyed) (c : ColumnOf RouteColumn) (r : ℕ) (turn : Turn) (new : Keyed)
    → IsPicked links demands bound basis place role b c r → ComesOf links demands c bound basis (place r) turn new → Enters links demands bound basis place role b c turn new
entered links demands bound basis place role b c r Again new pick comes = (r, pick, comes)
entered links demands bound basis place role b c r (Wide kind) new pick (inl before) = inl before
entered links demands bound basis place role b c r (Wide kind) new pick (inr after) = inr (r, pick, after)
entered links demands bound basis place role b c r Unbounded new pick comes = absurd comes

-- the column enters there
pub entering_at : (bound : ℕ → ℤ) (basis : ℕ → ColumnOf RouteColumn) (place role : ℕ → ℕ) (b : Keyed) (products : List ℤ) (name : RouteColumn) (c : ColumnOf RouteColumn) (r : ℕ) → length products ≡ length b.rows
    → HaveColumnProducts (with_products b products) name (key_links b.names b.places (length b.rows) (demand_in name))
    → IsGainingIn (length b.rows) (length b.duals) bound basis place role b name c → IsPicked (length b.rows) (length b.duals) bound basis place role b c r
    → IsEntering (length b.rows) (length b.duals) bound basis place role (with_products b products) name c r
entering_at bound basis place role b products name c r count have g p = record {
  held = held_with products count g.held;
  named = g.named;
  sound = g.sound;
  products = (asked bound basis place role b products name c count have g).products;
  inside = p.inside;
  of_keys = p.of_keys;
  of_den = p.of_den;
  key_rows = p.key_rows;
  pick = p.pick;
}

-- what a column that gains brings with it, when its products have been written
module _ (b new : Keyed) (name : RouteColumn) (e : new ≡ with_products b new.products) (count : length new.products ≡ length b.products)
    (have : HaveColumnProducts new name (key_links b.names b.places (length b.rows) (demand_in name)))
    {bound : ℕ → ℤ} {basis : ℕ → ColumnOf RouteColumn} {place role : ℕ → ℕ} {c : ColumnOf RouteColumn} (g : IsGainingIn (length b.rows) (length b.duals) bound basis place role b name c) where
  count_is : length new.products ≡ length b.rows
  count_is = count ∙ g.held.keyed.shaped.products

  here : IsKeyed (length b.rows) (length b.duals) bound basis place role (with_products b new.products)
  here = keyed_with new.products count_is g.held.keyed

  have_here : HaveColumnProducts (with_products b new.products) name (key_links b.names b.places (length b.rows) (demand_in name))
  have_here = subst (λ k. HaveColumnProducts k name (key_links b.names b.places (length b.rows) (demand_in name))) e have

  asked_here : IsAsked bound basis place role (with_products b new.products) name c
  asked_here = asked bound basis place role b new.products name c count_is have_here g

  pub new_shaped : IsShapedBasis (length new.rows) (length new.duals) new
  new_shaped = subst (λ k. IsShapedBasis (length k.rows) (length k.duals) k) (sym e) here.shaped

  pub new_key : IsShortPath (length new.rows) (key_links new.names new.places (length new.rows) (demand_in name))
  new_key = subst (λ k. IsShortPath (length k.rows) (key_links k.names k.places (length k.rows) (demand_in name))) (sym e) (key_short here.shaped (demand_in name) g.sound.demand)

  pub new_bounds : (r : ℕ) → r < length new.bounds → pos 0 ≤ℤ num new.bounds r
  new_bounds = subst (λ k. (r : ℕ) → r < length k.bounds → pos 0 ≤ℤ num k.bounds r) (sym e)
      (λ r l. let lr : r < length b.rows + length b.duals = omega (arith, l, g.held.keyed.shaped.bounds) in
      subst (λ x. pos 0 ≤ℤ x) (sym (g.held.keyed.bounds r lr)) (g.held.positive r lr))

  pub new_values : LeaveSomething new
  new_values = subst LeaveSomething (sym e) (λ d weights all n ld are le. left_nonneg here weights all d n ld le are)

  pub new_row_values : HaveValues (length new.rows) new.rows (num new.rest) new.values
  new_row_values = subst (λ k. HaveValues (length k.rows) k.rows (num k.rest) k.values) (sym e)
      (λ i l. here.values i l ∙ dot-same (length b.rows) (nums_at b.rows i) (nums_at b.rows i) _ _ (λ k lk. refl) (λ k lk. sym (here.rest k lk)))

  pick_at : (r : ℕ) → IsFirstOfRoles new name (λ s. Unit {0}) (Some r) → IsPicked (length b.rows) (length b.duals) bound basis place role b c r
  pick_at r first =
      let at = subst (λ k. IsFirstOfRoles k name (λ s. Unit {0}) (Some r)) e first in
      picked_first g.held.keyed c r (subst (λ x. x <ℤ pos 0) g.priced g.gains) (at bound basis place role c asked_here)

  enters_here : (r : ℕ) → IsFirstOfRoles new name (λ s. Unit {0}) (Some r) → IsEntering (length b.rows) (length b.duals) bound basis place role (with_products b new.products) name c r
  enters_here r first = entering_at bound basis place role b new.products name c r count_is have_here g (pick_at r first)

  pub new_priced : (r : ℕ) (x : ℤ) → x ≡ cost_at b name → IsFirstOfRoles new name (λ s. Unit {0}) (Some r) → HasPriced (length new.rows) (length new.duals) new name x r
  new_priced r x is first = subst (λ k. HasPriced (length k.rows) (length k.duals) k name x r) (sym e)
      (record { bound = bound; basis = basis; place = place; role = role; column = c; entering = enters_here r first; priced = is ∙ g.priced })

  pub ends_wide : (wide : WideTest) → IsWideTest new name wide → Enters (length b.rows) (length b.duals) bound basis place role b c (Wide (wide_kind new name wide)) new
  ends_wide wide w = subst (λ k. Enters (length b.rows) (length b.duals) bound basis place role b c (Wide (wide_kind k name wide)) k) (sym e) (inl (record {
    named = held_names (held_with new.products count_is g.held);
    holds = wide_test_holds here name c g.named.named (λ d l. sym (g.named.demand d l)) asked_here.products wide (subst (λ k. IsWideTest k name wide) e w);
  }))

  pub ends_unbounded : IsFirstOfRoles new name (λ s. Unit {0}) None → Enters (length b.rows) (length b.duals) bound basis place role b c Unbounded new
  ends_unbounded none r l = (subst (λ k. IsFirstOfRoles k name (λ s. Unit {0}) None) e none) bound basis place role c asked_here r l tt

  pub ends_turned : (r : ℕ) (x : ℤ) → x ≡ cost_at b name → IsFirstOfRoles new name (λ s. Unit {0}) (Some r) → (turn : Turn) (after : Keyed) → TurnsAt (length new.rows) (length new.duals) new name x r turn after
      → Enters (length b.rows) (length b.duals) bound basis place role b c turn after
  ends_turned r x is first turn after turns =
      let at = subst (λ k. TurnsAt (length k.rows) (length k.duals) k name x r turn after) e turns in
      entered (length b.rows) (length b.duals) bound basis place role b c r turn after (pick_at r first) (at bound basis place role c (enters_here r first) (is ∙ g.priced))
