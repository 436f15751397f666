-- the rows of all roles as the ratio test compares them, and the pick that it makes
use Rattle.std.proofs.Common.{◌≡◌, ◌≢◌, ℕ, ◌<◌, ◌≤◌, ◌+◌, ◌-◌, Bool, true, false, refl, sym, ap, arith, cond, ltb, ⊎_elim, subst, lt-ltb, le-ltb, ℤ, pos, ◌*ℤ◌, ◌<ℤ◌}
use Rattle.net_core.proofs.Library.{cases_lt, ints}
use Rattle.simplex_law.specs.Terms.{dot, unit_vector, ColumnOf, IsNoLater}
use Rattle.key_law.{specs.Keys.{key_part, left_column}, specs.KeyRows.{full_kept, full_key, cost, key_nums, key_dot}, specs.Kept.IsKept, specs.Ties.{ComesFirst, IsRoleRow}, specs.Turns.IsKeyPick, proofs.Firsts.comes_first, proofs.Kept.{row_product, key_row_product}, proofs.Spread.is_spread}

-- each demand's columns are brought over a denominator of its own
module _ {N : Type 0} {links demands : ℕ} {bound : ℕ → ℤ} {basis : ℕ → ColumnOf N} {place role : ℕ → ℕ} {kept : ℕ → ℕ → ℤ} {den prices : ℕ → ℤ} {prices_den : ℤ}
    (h : IsKept links demands bound basis place role kept den prices prices_den) (weight : ℕ → ℕ → ℤ) (all : ℕ → ℤ) (positive : (d : ℕ) → d < demands → pos 0 <ℤ all d) where
  -- the row of a role, by whether it is one of the block: its numbers, what it takes at the keys, its denominator, and its products
  abbrev row_of : Bool → ℕ → ℕ → ℤ
  row_of t r = cond t (full_kept links demands basis place (kept r) (den r)) (full_key links demands basis place (r - links) (key_nums links demands basis place kept (weight (r - links)) (r - links)) (all (r - links)))

  abbrev links_of : Bool → ℕ → ℕ → ℤ
  links_of t r = cond t (kept r) (key_nums links demands basis place kept (weight (r - links)) (r - links))

  abbrev target_of : Bool → ℕ → ℕ → ℤ
  target_of t r = cond t (λ d. pos 0) (unit_vector (r - links))

  abbrev den_of : Bool → ℕ → ℤ
  den_of t r = cond t (den r) (all (r - links))

  abbrev step_of : Bool → ℕ → (ℕ → ℤ) → ℤ
  step_of t r a = cond t (dot links (kept r) (left_column links demands basis place a)) (key_dot links demands basis place kept (weight (r - links)) (all (r - links)) (r - links) a)

  -- the products of all roles' rows
  pub role_product : (r : ℕ) (a : ℕ → ℤ) → r < links + demands → dot (links + demands) (row_of (ltb r links) r) a ≡ step_of (ltb r links) r a
  role_product r a l = ⊎_elim
      (λ lt. subst (λ t. dot (links + demands) (row_of t r) a ≡ step_of t r a) (sym (lt-ltb r links lt)) (row_product h r a))
      (λ ge. subst (λ t. dot (links + demands) (row_of t r) a ≡ step_of t r a) (sym (le-ltb r links ge)) (key_row_product h (weight (r - links)) (all (r - links)) (r - links) (omega (arith, ge, l)) a))
      (cases_lt r links)

  module _ (a : ℕ → ℤ) (r : ℕ) (nums : ℕ → ℤ) (lowest factor times : ℤ) (pf : pos 0 <ℤ factor) (pt : pos 0 <ℤ times) where
    -- a positive product, and numbers in the ratio of the link entries and it
    abbrev Facts : Bool → Type 0
    Facts t = (pos 0 <ℤ step_of t r a) × ((k : ℕ) → k < links → factor *ℤ links_of t r k ≡ times *ℤ nums k) × (factor *ℤ step_of t r a ≡ times *ℤ lowest)

    abbrev Goal : Bool → Type 0
    Goal t = IsRoleRow links demands (key_part links demands basis place) bound a r (step_of t r bound) (step_of t r a) nums lowest (target_of t r) (links_of t r) (den_of t r) (row_of t r)

    of_block : r < links → Facts true → Goal true
    of_block l f = record {
      inside = omega (arith, l);
      spreads = is_spread links demands (key_part links demands basis place) (λ d. pos 0) (kept r) (den r);
      of_block = λ lr d ld. refl;
      of_key = λ d ld e. absurd (omega (arith, e, l));
      over = h.over r l;
      value_is = sym (row_product h r bound);
      product_is = sym (row_product h r a);
      positive = f.0;
      factor = factor;
      times = times;
      factor_positive = pf;
      times_positive = pt;
      numbers = f.1;
      pivot = f.2;
    }

    of_key : links ≤ r → r < links + demands → Facts false → Goal false
    of_key ge l f =
        let d = r - links in
        let ld : d < demands = omega (arith, ge, l) in
        record {
          inside = l;
          spreads = is_spread links demands (key_part links demands basis place) (unit_vector d) (key_nums links demands basis place kept (weight d) d) (all d);
          of_block = λ lr. absurd (omega (arith, lr, ge));
          of_key = λ o lo e x lx. ap (λ y. unit_vector y x) (omega (arith, e));
          over = positive d ld;
          value_is = sym (key_row_product h (weight d) (all d) d ld bound);
          product_is = sym (key_row_product h (weight d) (all d) d ld a);
          positive = f.0;
          factor = factor;
          times = times;
          factor_positive = pf;
          times_positive = pt;
          numbers = f.1;
          pivot = f.2;
        }

    -- a role's row as the ratio test has it
    pub role_candidate : r < links + demands → Facts (ltb r links) → Goal (ltb r links)
    role_candidate l f = ⊎_elim
        (λ lt. subst Goal (sym (lt-ltb r links lt)) (of_block lt (subst Facts (lt-ltb r links lt) f)))
        (λ ge. subst Goal (sym (le-ltb r links ge)) (of_key ge l (subst Facts (le-ltb r links ge) f)))
        (cases_lt r links)

  -- the role that comes before all others whose product is positive leaves
  pub first_role : (c : ColumnOf N) (r : ℕ) → r < links + demands → cost links demands basis place prices prices_den c <ℤ pos 0 → pos 0 <ℤ step_of (ltb r links) r c.entry
      → ((i : ℕ) → i < links + demands → i ≢ r → pos 0 <ℤ step_of (ltb i links) i c.entry
      → IsNoLater (links + demands) bound (row_of (ltb r links) r) (step_of (ltb r links) r c.entry) (row_of (ltb i links) i) (step_of (ltb i links) i c.entry))
      → IsKeyPick links demands bound basis place kept den prices prices_den (λ d. key_nums links demands basis place kept (weight d) d) all c r
  first_role c r l gains some ratio = record {
    inside = l;
    positive = subst (λ x. pos 0 <ℤ x) (sym (role_product r c.entry l)) some;
    gains = gains;
    ratio = λ i li ne more.
        subst (λ x. IsNoLater (links + demands) bound (row_of (ltb r links) r) x (row_of (ltb i links) i) (dot (links + demands) (row_of (ltb i links) i) c.entry)) (sym (role_product r c.entry l))
        (subst (λ x. IsNoLater (links + demands) bound (row_of (ltb r links) r) (step_of (ltb r links) r c.entry) (row_of (ltb i links) i) x) (sym (role_product i c.entry li))
        (ratio i li ne (subst (λ x. pos 0 <ℤ x) (role_product i c.entry li) more)));
  }

  -- it may be found by values, link entries and roles
  pub picked_role : (c : ColumnOf N) (r : ℕ) → r < links + demands → cost links demands basis place prices prices_den c <ℤ pos 0 → pos 0 <ℤ step_of (ltb r links) r c.entry
      → ((i : ℕ) → i < links + demands → i ≢ r → pos 0 <ℤ step_of (ltb i links) i c.entry
      → ComesFirst links (step_of (ltb r links) r bound) (step_of (ltb r links) r c.entry) (step_of (ltb i links) i bound) (step_of (ltb i links) i c.entry)
      (links_of (ltb r links) r) (step_of (ltb r links) r c.entry) (links_of (ltb i links) i) (step_of (ltb i links) i c.entry) r i)
      → IsKeyPick links demands bound basis place kept den prices prices_den (λ d. key_nums links demands basis place kept (weight d) d) all c r
  picked_role c r l gains some first = first_role c r l gains some (λ i li ne more. comes_first (same r l some) (same i li more) (first i li ne more))
    where
      same : (i : ℕ) → i < links + demands → pos 0 <ℤ step_of (ltb i links) i c.entry
          → IsRoleRow links demands (key_part links demands basis place) bound c.entry i (step_of (ltb i links) i bound) (step_of (ltb i links) i c.entry)
          (links_of (ltb i links) i) (step_of (ltb i links) i c.entry) (target_of (ltb i links) i) (links_of (ltb i links) i) (den_of (ltb i links) i) (row_of (ltb i links) i)
      same i li more = role_candidate c.entry i (links_of (ltb i links) i) (step_of (ltb i links) i c.entry) (pos 1) (pos 1) (omega (arith, ints)) (omega (arith, ints)) li (more, λ k lk. refl, refl)
