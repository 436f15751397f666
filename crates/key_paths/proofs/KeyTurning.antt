-- a column enters for the only basic column of its demand, the key
use Rattle.std.proofs.Common.{◌≡◌, ◌≢◌, ℕ, List, Some, pos, length, get_or, slice_set, ◌<◌, ◌≤◌, ◌+◌, ◌*◌, ◌^◌, refl, sym, ap, ◌∙◌, subst, arith, ⊎_elim, unsigned_abs, length-set, slice_get, ℤ, ◌-ℤ◌, ◌*ℤ◌, ◌<ℤ◌, ◌≤ℤ◌, get_or-set_same, get_or-set_other}
use Rattle.net_core.proofs.Library.{*ℤ_comm, cases_eq, ints, unsigned_abs-mul}
use Rattle.checked_fraction.specs.Terms.{num, IsNarrow}
use Rattle.plan_terms.specs.Terms.{RouteColumn, DemandSlack}
use Rattle.simplex_law.{specs.Terms.{IsWide, dot, put, ColumnOf}, proofs.Lemmas.unit-same}
use Rattle.simplex_core.specs.Terms.{nums_at, den_at}
use Rattle.key_law.{specs.Terms.{key, key_part, left_column, full_prices, IsKept, IsLoneKey}, proofs.Lemmas.{kept_value_nonneg, kept_value_low, new_difference, key_turned_product, is_spread, key_turned, new_key, old_key, wide_demand}}
use Rattle.key_rows.{specs.Terms.{IsShapedBasis, IsColumnNamed, IsKeyed, amounts, demand_in, links_in, column_name, key_name, own_entry, owner_in, path_uses, key_dual, IsNameWithin}, specs.declared.keyed.Keyed.Keyed, proofs.Columns.own_demand}
use Rattle.key_paths.{specs.inner.Held.{IsNameOf, IsOnce, IsHeld, IsEntering, IsAlone, IsWideNext}, proofs.Named.{own_none, uses_path, once_links, named_price, put_each, IsNamedColumn}, proofs.Holding.{den_narrow, held_packing, held_columns, key_named, key_own, amount_low}}

module _ {links demands : ℕ} {bound : ℕ → ℤ} {basis : ℕ → ColumnOf RouteColumn} {place role : ℕ → ℕ} {b : Keyed} {name : RouteColumn} {c : ColumnOf RouteColumn}
    (d : ℕ) (e : IsEntering links demands bound basis place role b name c (links + d)) (own : demand_in name ≡ Some d) (alone : IsAlone b.owners links d) where
  abbrev after : ℕ → ColumnOf RouteColumn
  after = put basis (place (links + d)) c

  abbrev h : IsHeld links demands bound basis place role b
  h = e.held

  pub low : d < demands
  low = omega (arith, e.inside)

  -- the name is one of the demand
  pub name_own : own_entry name d ≡ pos 1
  name_own = own_demand name d d own ∙ unit-same d

  pub name_once : IsOnce links (links_in name)
  name_once = once_links links demands name d name_own e.sound

  pub lone : IsLoneKey links demands basis place c d
  lone = record {
    inside = low;
    owned = λ x lx. e.named.demand x lx ∙ own_demand name d x own;
    alone = λ j lj. (h.keyed.named (place j) (h.keyed.kept.roles.place_in j (omega (arith, lj)))).demand d low
        ∙ own_none (column_name b.names (place j)) demands d (λ f. alone j lj (h.keyed.owned j lj ∙ f));
  }

  pub next_kept : IsKept links demands bound after place role (nums_at b.rows) (den_at b.rows) (num b.prices.nums) b.prices.den
  next_kept = key_turned h.keyed.kept e.key_rows c (links + d) e.inside e.pick d refl lone

  new_is : after (place (links + d)) ≡ c
  new_is = new_key h.keyed.kept e.key_rows c (links + d) e.inside e.pick d refl lone

  old_is : (x : ℕ) → x < demands → x ≢ d → after (place (links + x)) ≡ basis (place (links + x))
  old_is x lx ne = old_key h.keyed.kept e.key_rows c (links + d) e.inside e.pick d refl lone x lx ne

  place_in : place (links + d) < links + demands
  place_in = h.keyed.kept.roles.place_in (links + d) e.inside

  -- what the keys leave of the bounds
  abbrev left : ℕ → ℤ
  left = left_column links demands basis place bound

  abbrev next_left : ℕ → ℤ
  next_left = left_column links demands after place bound

  left_moved : (k : ℕ) → k < links → next_left k ≡ left k -ℤ (bound (links + d) *ℤ (path_uses (links_in name) k -ℤ path_uses (links_in (key_name b.names b.places links d)) k))
  left_moved k lk = new_difference links demands (key_part links demands basis place) (key_part links demands after place) d low (λ x y lx ne. ap (λ z. z.entry y) (old_is x lx ne)) bound k
      ∙ same (bound (links + d)) (left k)
      (ap (λ z. z.entry k) new_is ∙ (e.named.link k lk ∙ uses_path name d name_own k))
      ((key_named h d low).link k lk ∙ uses_path (key_name b.names b.places links d) d (key_own h d low) k)
    where
      same : (x y : ℤ) {u v u' v' : ℤ} → u ≡ u' → v ≡ v' → y -ℤ (x *ℤ (u -ℤ v)) ≡ y -ℤ (x *ℤ (u' -ℤ v'))
      same x y {u} {v} {u'} {v'} eu ev = ap (λ z. y -ℤ (x *ℤ (z -ℤ v))) eu ∙ ap (λ z. y -ℤ (x *ℤ (u' -ℤ z))) ev

  -- values
  value_moved : (i : ℕ) → i < links → dot links (nums_at b.rows i) next_left ≡ amounts b.values i -ℤ (num b.products i *ℤ bound (links + d))
  value_moved i l = key_turned_product h.keyed.kept e.key_rows c (links + d) e.inside e.pick d refl lone (nums_at b.rows i) bound
      ∙ (ap (λ x. x -ℤ (bound (links + d) *ℤ dot links (nums_at b.rows i) (left_column links demands basis place c.entry))) (sym (h.keyed.values i l))
      ∙ (ap (λ x. amounts b.values i -ℤ (bound (links + d) *ℤ x)) (sym (e.products i l)) ∙ ap (λ x. amounts b.values i -ℤ x) (*ℤ_comm (bound (links + d)) (num b.products i))))

  next_columns : (j : ℕ) → j < links + demands → IsNamedColumn links demands (after j)
  next_columns j l = put_each (λ x y. IsNamedColumn links demands y) b.names basis (place (links + d)) name c j (omega (arith, h.keyed.shaped.names, place_in)) (name, e.sound, e.named) (held_columns h j l)

  pub value_high : (i : ℕ) → i < links → pos 0 ≤ℤ (amounts b.values i -ℤ (num b.products i *ℤ num b.bounds (links + d)))
  value_high i l = subst (λ x. pos 0 ≤ℤ (amounts b.values i -ℤ (num b.products i *ℤ x))) (sym (h.keyed.bounds (links + d) e.inside))
      (subst (λ x. pos 0 ≤ℤ x) (value_moved i l) (kept_value_nonneg (IsNamedColumn links demands) next_kept i l))

  -- what is taken away is no more than two values differ
  pub taken_low : (i : ℕ) → i < links → unsigned_abs (num b.products i) * unsigned_abs (num b.bounds (links + d)) ≤ 2 ^ 124
  taken_low i l = subst (λ x. x ≤ 2 ^ 124) (unsigned_abs-mul (num b.products i) (num b.bounds (links + d)))
      (subst (λ x. unsigned_abs (num b.products i *ℤ x) ≤ 2 ^ 124) (sym (h.keyed.bounds (links + d) e.inside))
      (between (num b.products i *ℤ bound (links + d)) (amount_low h i l) (kept_value_nonneg (IsNamedColumn links demands) next_kept i l)
      (kept_value_low (IsNamedColumn links demands) next_kept i l (held_packing h) next_columns (den_narrow (slice_get b.rows i))) (value_moved i l)))
    where
      between : {v : ℕ} {n : ℤ} (t : ℤ) → pos v <ℤ pos (2 ^ 124) → pos 0 ≤ℤ n → unsigned_abs n < 2 ^ 124 → n ≡ pos v -ℤ t → unsigned_abs t ≤ 2 ^ 124
      between {v} {n} t under high less is = omega (arith, ints, under, high, less, is)

  -- the names after it
  module _ (names : List RouteColumn) (is_names : names ≡ slice_set b.names (get_or b.places (links + d) 0) name) where
    named_at : names ≡ slice_set b.names (place (links + d)) name
    named_at = is_names ∙ ap (λ x. slice_set b.names x name) (h.keyed.placed (links + d) e.inside)

    names_count : length names ≡ links + demands
    names_count = ap length named_at ∙ (length-set b.names (place (links + d)) name ∙ h.keyed.shaped.names)

    next_each : (Q : RouteColumn → ColumnOf RouteColumn → Type 0) (j : ℕ) → Q name c → Q (column_name b.names j) (basis j) → Q (column_name names j) (after j)
    next_each Q j here there = subst (λ x. Q (column_name x j) (after j)) (sym named_at) (put_each Q b.names basis (place (links + d)) name c j (omega (arith, h.keyed.shaped.names, place_in)) here there)

    next_named : (j : ℕ) → j < links + demands → IsColumnNamed links demands (column_name names j) (after j)
    next_named j l = next_each (λ x y. IsColumnNamed links demands x y) j e.named (h.keyed.named j l)

    -- a price of the demand that is too wide
    pub key_wide : IsWide (key_dual links (num b.prices.nums) b.prices.den name) → IsWideNext links demands after names (links + demands)
    key_wide wide = record {
      named = record { count = names_count; each = next_named };
      wide = wide_demand (IsNamedColumn links demands) next_kept d low (subst IsWide (sym (price_is)) wide);
    }
      where
        price_is : full_prices links demands after place (num b.prices.nums) b.prices.den (links + d) ≡ key_dual links (num b.prices.nums) b.prices.den name
        price_is = named_price links demands after place (num b.prices.nums) b.prices.den d name low (subst (λ x. IsColumnNamed links demands name x) (sym new_is) e.named) name_own

    module _ (duals rest : List ℤ) (values : List ℕ) (v : ℤ)
        (is_duals : duals ≡ slice_set b.duals d v) (is_v : v ≡ key_dual links (num b.prices.nums) b.prices.den name) (narrow_v : IsNarrow v)
        (rest_count : length rest ≡ links)
        (is_rest : (k : ℕ) → num rest k ≡ num b.rest k -ℤ (num b.bounds (links + d) *ℤ (path_uses (links_in name) k -ℤ path_uses (links_in (key_name b.names b.places links d)) k)))
        (values_count : length values ≡ links)
        (is_values : (i : ℕ) → i < links → amounts values i ≡ amounts b.values i -ℤ (num b.products i *ℤ num b.bounds (links + d))) where
      abbrev next : Keyed
      next = record { names = names; places = b.places; owners = b.owners; rows = b.rows; prices = b.prices; duals = duals; bounds = b.bounds; rest = rest; values = values; products = b.products }

      dual_at : (x : ℕ) → (P : ℤ → Type 0) → x < demands → (x ≡ d → P v) → (x ≢ d → P (num b.duals x)) → P (num duals x)
      dual_at x P lx here there = subst (λ y. P (num y x)) (sym is_duals) (⊎_elim
          (λ f. subst P (sym (subst (λ y. num (slice_set b.duals d v) y ≡ v) (sym f) (get_or-set_same b.duals d v (pos 0) (omega (arith, low, h.keyed.shaped.duals))))) (here f))
          (λ ne. subst P (sym (get_or-set_other b.duals d x v (pos 0) ne)) (there ne))
          (cases_eq x d))

      shaped : IsShapedBasis links demands next
      shaped = let s = h.keyed.shaped in record {
        names = names_count;
        places = s.places;
        owners = s.owners;
        rows = s.rows;
        rectangle = s.rectangle;
        prices = s.prices;
        duals = ap length is_duals ∙ (length-set b.duals d v ∙ s.duals);
        bounds = s.bounds;
        rest = rest_count;
        values = values_count;
        products = s.products;
        narrow_bounds = s.narrow_bounds;
        narrow_duals = λ x. subst (λ y. IsNarrow (num y x)) (sym is_duals) (⊎_elim
            (λ f. subst IsNarrow (sym (subst (λ y. num (slice_set b.duals d v) y ≡ v) (sym f) (get_or-set_same b.duals d v (pos 0) (omega (arith, low, s.duals))))) narrow_v)
            (λ ne. subst IsNarrow (sym (get_or-set_other b.duals d x v (pos 0) ne)) (s.narrow_duals x))
            (cases_eq x d));
        inside = s.inside;
        within = λ j l. next_each (λ x y. IsNameWithin links x) j e.sound.within (s.within j l);
        short = s.short;
      }

      keyed : IsKeyed links demands bound after place role next
      keyed = record {
        shaped = shaped;
        named = next_named;
        placed = h.keyed.placed;
        owned = λ i l. h.keyed.owned i l ∙ sym (ap (λ x. owner_in demands x) (subst (λ y. column_name y (place i) ≡ column_name b.names (place i)) (sym named_at)
            (get_or-set_other b.names (place (links + d)) (place i) name (DemandSlack 0) (apart i l))));
        kept = next_kept;
        bounds = h.keyed.bounds;
        rest = λ k lk. is_rest k
            ∙ (ap (λ x. num b.rest k -ℤ (x *ℤ (path_uses (links_in name) k -ℤ path_uses (links_in (key_name b.names b.places links d)) k))) (h.keyed.bounds (links + d) e.inside)
            ∙ (ap (λ x. x -ℤ (bound (links + d) *ℤ (path_uses (links_in name) k -ℤ path_uses (links_in (key_name b.names b.places links d)) k))) (h.keyed.rest k lk) ∙ sym (left_moved k lk)));
        values = λ i l. is_values i l ∙ (ap (λ x. amounts b.values i -ℤ (num b.products i *ℤ x)) (h.keyed.bounds (links + d) e.inside) ∙ sym (value_moved i l));
        duals = λ x lx. dual_at x (λ y. y ≡ full_prices links demands after place (num b.prices.nums) b.prices.den (links + x)) lx
            (λ f. subst (λ y. v ≡ full_prices links demands after place (num b.prices.nums) b.prices.den (links + y)) (sym f)
            (is_v ∙ sym (named_price links demands after place (num b.prices.nums) b.prices.den d name low (subst (λ y. IsColumnNamed links demands name y) (sym new_is) e.named) name_own)))
            (λ ne. h.keyed.duals x lx ∙ price_same x lx ne);
      }
        where
          apart : (i : ℕ) → i < links → place i ≢ place (links + d)
          apart i l f = omega (arith, l, sym (h.keyed.kept.roles.there i (omega (arith, l))) ∙ (ap role f ∙ h.keyed.kept.roles.there (links + d) e.inside))

          price_same : (x : ℕ) → x < demands → x ≢ d → full_prices links demands basis place (num b.prices.nums) b.prices.den (links + x) ≡ full_prices links demands after place (num b.prices.nums) b.prices.den (links + x)
          price_same x lx ne =
              (is_spread links demands (key_part links demands basis place) (λ y. (key links demands basis place y).gain) (num b.prices.nums) b.prices.den).demand x lx
              ∙ (ap (λ y. (b.prices.den *ℤ y.gain) -ℤ dot links (num b.prices.nums) y.entry) (sym (old_is x lx ne))
              ∙ sym ((is_spread links demands (key_part links demands after place) (λ y. (key links demands after place y).gain) (num b.prices.nums) b.prices.den).demand x lx))

      pub next_held : IsHeld links demands bound after place role next
      next_held = record {
        keyed = keyed;
        few = h.few;
        positive = h.positive;
        names = λ j l. next_each (λ x y. IsNameOf links demands x) j e.sound (h.names j l);
      }
