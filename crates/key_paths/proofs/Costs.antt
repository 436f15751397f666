-- what columns cost at the prices of a basis with keys
use Rattle.std.proofs.Common.{◌≡◌, ℕ, List, [], length, ◌+◌, refl, sym, ap, ◌∙◌, arith, ℤ, pos, ◌+ℤ◌, ◌-ℤ◌, ◌*ℤ◌, ◌<ℤ◌, ◌≤ℤ◌}
use Rattle.net_core.proofs.Library.{*ℤ-zero, ints}
use Rattle.checked_fraction.specs.Terms.{num}
use Rattle.plan_terms.specs.Terms.{RouteColumn, LinkSlack, DemandSlack, Carry, Demand, Graph}
use Rattle.simplex_law.{specs.Terms.{int_sum, dot, unit_vector, ColumnOf, Gains}, proofs.Lemmas.{sum-same, sum-none, sum-unit, dot-same, dot-unit, dot-none-column, sum-split}}
use Rattle.route_law.specs.Terms.{route_rows, IsRouteColumn}
use Rattle.key_law.{specs.Terms.{key, key_part, cost, full_prices}, proofs.Lemmas.{cost_product, is_spread}}
use Rattle.key_rows.{specs.Terms.{IsColumnNamed, IsKeyed, path_uses, uses, own_entry, gain_in}, specs.declared.keyed.Keyed.Keyed}
use Rattle.key_paths.{specs.inner.Gaining.{cost_at, IsGaining, IsRouteName, NoneGains}, proofs.Carried.carried_place, proofs.RouteNames.{route_name, route_named}}

-- the cost of a name by its links, its demand and its gain
module _ (g : Graph) (demands : List Demand) (b : Keyed) (links : length b.prices.nums ≡ length g.links) where
  by_parts : (name : RouteColumn) → IsRouteName g demands name
      → (dot (length g.links) (num b.prices.nums) (uses name) +ℤ int_sum (length demands) (λ d. num b.duals d *ℤ own_entry name d)) -ℤ (b.prices.den *ℤ gain_in name) ≡ cost_at b name
  by_parts (LinkSlack link) is = first
      (dot-unit (length g.links) link.0 (num b.prices.nums) (unit_vector link.0) is (λ k l. refl))
      (sum-same (length demands) _ (λ d. pos 0) (λ d l. *ℤ-zero (num b.duals d)) ∙ sum-none (length demands))
      (*ℤ-zero b.prices.den)
    where
      first : {x y s z : ℤ} → x ≡ y → s ≡ pos 0 → z ≡ pos 0 → (x +ℤ s) -ℤ z ≡ y
      first {x} {y} {s} {z} e f h = omega (arith, ints, e, f, h)
  by_parts (DemandSlack demand) is = second
      (dot-none-column (length g.links) (num b.prices.nums) (path_uses []) (λ k l. refl))
      (sum-unit (length demands) demand (num b.duals) is)
      (*ℤ-zero b.prices.den)
    where
      second : {x y s z : ℤ} → x ≡ pos 0 → s ≡ y → z ≡ pos 0 → (x +ℤ s) -ℤ z ≡ y
      second {x} {y} {s} {z} e f h = omega (arith, ints, e, f, h)
  by_parts (Carry k path) is = third
      (ap (λ n. dot n (num b.prices.nums) (path_uses path)) (sym links))
      (sum-unit (length demands) k (num b.duals) (carried_place g demands k path is))
      b.prices.den
    where
      third : {x y s t : ℤ} → x ≡ y → s ≡ t → (den : ℤ) → (x +ℤ s) -ℤ (den *ℤ pos 1) ≡ (y +ℤ t) -ℤ den
      third {x} {y} {s} {t} e f den = omega (arith, ints, e, f)

module _ (g : Graph) (demands : List Demand) {bound : ℕ → ℤ} {basis : ℕ → ColumnOf RouteColumn} {place role : ℕ → ℕ} {b : Keyed}
    (h : IsKeyed (length g.links) (length demands) bound basis place role b) where
  abbrev prices : ℕ → ℤ
  prices = full_prices (length g.links) (length demands) basis place (num b.prices.nums) b.prices.den

  -- the product of the prices with a column, less its gain
  pub cost_named : (name : RouteColumn) (c : ColumnOf RouteColumn) → IsRouteName g demands name → IsColumnNamed (length g.links) (length demands) name c
      → dot (route_rows g demands) prices c.entry -ℤ (b.prices.den *ℤ c.gain) ≡ cost_at b name
  cost_named name c is named =
      let n = length g.links in
      let q = length demands in
      let spread = is_spread n q (key_part n q basis place) (λ d. (key n q basis place d).gain) (num b.prices.nums) b.prices.den in
      let over_links : int_sum n (λ k. prices k *ℤ c.entry k) ≡ dot n (num b.prices.nums) (uses name) = dot-same n prices (num b.prices.nums) c.entry (uses name) spread.link named.link in
      let over_demands : int_sum q (λ d. prices (n + d) *ℤ c.entry (n + d)) ≡ int_sum q (λ d. num b.duals d *ℤ own_entry name d) =
      sum-same q _ _ (λ d l. ap (λ x. x *ℤ c.entry (n + d)) (sym (h.duals d l)) ∙ ap (λ x. num b.duals d *ℤ x) (named.demand d l)) in
      ap (λ x. x -ℤ (b.prices.den *ℤ c.gain)) (sum-split n q (λ k. prices k *ℤ c.entry k) ∙ both over_links over_demands)
      ∙ (ap (λ x. (dot n (num b.prices.nums) (uses name) +ℤ int_sum q (λ d. num b.duals d *ℤ own_entry name d)) -ℤ (b.prices.den *ℤ x)) named.gain
      ∙ by_parts g demands b h.shaped.prices name is)
    where
      both : {x y s t : ℤ} → x ≡ y → s ≡ t → x +ℤ s ≡ y +ℤ t
      both {x} {y} {s} {t} e f = omega (arith, ints, e, f)

  -- the cost of a named column by what the keys leave of it
  pub key_cost_named : (name : RouteColumn) (c : ColumnOf RouteColumn) → IsRouteName g demands name → IsColumnNamed (length g.links) (length demands) name c
      → cost (length g.links) (length demands) basis place (num b.prices.nums) b.prices.den c ≡ cost_at b name
  key_cost_named name c is named = sym (cost_product h.kept c) ∙ cost_named name c is named

  -- a column that gains by its name does
  pub gains_named : (name : RouteColumn) (c : ColumnOf RouteColumn) → IsGaining g demands b name → IsColumnNamed (length g.links) (length demands) name c
      → Gains (route_rows g demands) prices b.prices.den c
  gains_named name c is named = above (cost_named name c is.is_name named) is.gains
    where
      above : {x y z : ℤ} → x -ℤ y ≡ z → z <ℤ pos 0 → x <ℤ y
      above {x} {y} {z} e l = omega (arith, ints, e, l)

  -- where none gains by its name, none does
  pub none_gains : NoneGains g demands b → (c : ColumnOf RouteColumn) → IsRouteColumn g demands c → Gains (route_rows g demands) prices b.prices.den c → ⊥
  none_gains none c is gains =
      let name = route_name g demands c is in
      below (cost_named c.name c name (route_named g demands c is)) (none c.name name) gains
    where
      below : {x y z : ℤ} → x -ℤ y ≡ z → pos 0 ≤ℤ z → x <ℤ y → ⊥
      below {x} {y} {z} e l less = omega (arith, ints, e, l, less)
