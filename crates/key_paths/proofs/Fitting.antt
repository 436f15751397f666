-- the values of a basis with keys, over a common denominator of its rows
use Rattle.std.proofs.Common.{◌≡◌, ℕ, ℤ, List, length, get_or, slice_set, cond, ltb, pos, unsigned_abs, ◌<◌, ◌+◌, ◌-◌, ◌*◌, ◌/◌, ◌^◌, ◌-ℤ◌, ◌*ℤ◌, sym, ap, ◌∙◌, subst, arith, ⊎_elim, ◌<ℤ◌, ◌≤ℤ◌, lt-ltb, le-ltb, get_or-set_same, get_or-set_other}
use Rattle.net_core.proofs.Library.{cases_eq, cases_lt, ints}
use Rattle.checked_fraction.{specs.Terms.num, proofs.Products.regroup}
use Rattle.plan_terms.specs.Terms.{RouteColumn}
use Rattle.simplex_law.{specs.Terms.{dot, unit_vector, ColumnOf, IsPacking}, proofs.Lemmas.{sum-same, dot-times, row_value_low}}
use Rattle.simplex_core.specs.Terms.{nums_at, den_at, DivideAll}
use Rattle.key_law.{specs.Terms.{left_column, full_kept, key_dot, role_value}, proofs.Lemmas.{key_value_low, kept_row, row_product}}
use Rattle.key_rows.{specs.Terms.{IsKeyed, amounts, times_taken, weighted, AreWeights, left_over_rows}, specs.declared.keyed.Keyed.Keyed, proofs.Columns.{times_are, have_weights, left_nonneg}, proofs.Weighing.times_back}
use Rattle.key_paths.{specs.inner.Ends.{row_den, shares, row_over, key_over, role_over, FitOver, HasFittingValues, AreApartPlaces}, proofs.Ending.share_at}

module _ {links demands : ℕ} {bound : ℕ → ℤ} {basis : ℕ → ColumnOf RouteColumn} {place role : ℕ → ℕ} {b : Keyed} (h : IsKeyed links demands bound basis place role b) where
  -- no two roles have one place
  pub apart_places : AreApartPlaces b.places
  apart_places r s less inside same =
      let ls : s < links + demands = omega (arith, inside, h.shaped.places) in
      let lr : r < links + demands = omega (arith, ls, less) in
      let e : r ≡ s = sym (h.kept.roles.there r lr) ∙ (ap role (sym (h.placed r lr) ∙ (same ∙ h.placed s ls)) ∙ h.kept.roles.there s ls) in
      omega (arith, e, less)

  module _ (all : ℕ) (some : 0 < all) (low : all < 2 ^ 62) (divides : DivideAll (row_den b.rows) (length b.rows) all) where
    inside : (i : ℕ) → i < links → i < length b.rows
    inside i l = omega (arith, l, h.shaped.rows)

    -- each row's share of the common denominator brings it over that
    pub share_times : (i : ℕ) → i < links → num (shares b.rows all) i *ℤ den_at b.rows i ≡ pos all
    share_times i l = ap (λ x. x *ℤ den_at b.rows i) (share_at b.rows all i (inside i l)) ∙ times_back all (den_at b.rows i) (h.kept.over i l) (divides i (inside i l))

    pub above : pos 0 <ℤ pos all
    above = omega (arith, ints, some)

    pub share_weights : (d : ℕ) → AreWeights b.rows b.owners (shares b.rows all) d (pos all)
    share_weights d = record { positive = above; narrow = low; each = λ i l own. share_times i (omega (arith, l, h.shaped.rows)) }

    -- the value of a row
    pub row_over_is : (i : ℕ) → i < links → row_over b all i ≡ num (shares b.rows all) i *ℤ dot links (nums_at b.rows i) (left_column links demands basis place bound)
    row_over_is i l = product (get_or b.values i 0) (all / row_den b.rows i) (share_at b.rows all i (inside i l)) (h.values i l)
      where
        product : {w v : ℤ} (x s : ℕ) → w ≡ pos s → pos x ≡ v → pos (x * s) ≡ w *ℤ v
        product {w} {v} x s e f = omega (arith, ints) ∙ (ap (λ z. z *ℤ pos x) (sym e) ∙ ap (λ z. w *ℤ z) f)

    -- and of a key
    pub key_over_is : (d : ℕ) → d < demands → key_over b all d links ≡ key_dot links demands basis place (nums_at b.rows) (num (shares b.rows all)) (pos all) d bound
    key_over_is d ld =
        ap (λ n. left_over_rows b.owners (shares b.rows all) d (pos all) (num b.bounds (n + d)) (amounts b.values) links) h.shaped.rows
        ∙ (ap (λ z. (pos all *ℤ z) -ℤ weighted b.owners (shares b.rows all) d (amounts b.values) links) (h.bounds (links + d) (omega (arith, ld)))
        ∙ ap (λ s. (pos all *ℤ bound (links + d)) -ℤ s) (sum-same links _ _ (λ i l. ap (λ z. times_taken b.owners (shares b.rows all) d i *ℤ z) (h.values i l)
        ∙ ap (λ z. z *ℤ dot links (nums_at b.rows i) (left_column links demands basis place bound)) (sym (times_are h (shares b.rows all) d i ld l)))))

    -- and of any role
    pub role_over_is : (r : ℕ) → r < links + demands → role_over b all r ≡ role_value links demands basis place (nums_at b.rows) (num (shares b.rows all)) (pos all) bound r
    role_over_is r l = subst (λ n. cond (ltb r n) (row_over b all r) (key_over b all (r - n) n) ≡ of_role) (sym h.shaped.rows) (⊎_elim
        (λ lt. subst (λ t. cond t (row_over b all r) (key_over b all (r - links) links) ≡ cond t of_row of_key) (sym (lt-ltb r links lt)) (row_over_is r lt))
        (λ ge. subst (λ t. cond t (row_over b all r) (key_over b all (r - links) links) ≡ cond t of_row of_key) (sym (le-ltb r links ge)) (key_over_is (r - links) (omega (arith, l, ge))))
        (cases_lt r links))
      where
        of_role : ℤ
        of_role = role_value links demands basis place (nums_at b.rows) (num (shares b.rows all)) (pos all) bound r

        of_row : ℤ
        of_row = num (shares b.rows all) r *ℤ dot links (nums_at b.rows r) (left_column links demands basis place bound)

        of_key : ℤ
        of_key = key_dot links demands basis place (nums_at b.rows) (num (shares b.rows all)) (pos all) (r - links) bound

    module _ (is_column : ColumnOf RouteColumn → Type 0) (packing : IsPacking (links + demands) bound is_column) (columns : (j : ℕ) → j < links + demands → is_column (basis j)) where
      -- the value of a row over all is below 2 ^ 124
      row_low : (i : ℕ) → i < links → unsigned_abs (num (shares b.rows all) i *ℤ dot links (nums_at b.rows i) (left_column links demands basis place bound)) < 2 ^ 124
      row_low i l =
          let m = links + demands in
          let w = num (shares b.rows all) i in
          let u = full_kept links demands basis place (nums_at b.rows i) (den_at b.rows i) in
          subst (λ x. unsigned_abs x < 2 ^ 124) (dot-times m w u bound ∙ ap (λ x. w *ℤ x) (row_product h.kept i bound))
          (row_value_low m bound is_column basis h.kept.whole (place i) (λ k. w *ℤ u k) (pos all) (h.kept.roles.place_in i (omega (arith, l)))
          (λ j lj. dot-times m w u (basis j).entry ∙ (ap (λ x. w *ℤ x) (kept_row h.kept i l j lj) ∙ (sym (regroup w (den_at b.rows i) (unit_vector (place i) j)) ∙ ap (λ x. x *ℤ unit_vector (place i) j) (share_times i l))))
          above packing columns low)

      key_low : (d : ℕ) → d < demands → unsigned_abs (key_dot links demands basis place (nums_at b.rows) (num (shares b.rows all)) (pos all) d bound) < 2 ^ 124
      key_low d ld = key_value_low is_column h.kept (num (shares b.rows all)) (pos all) d ld above (have_weights h (shares b.rows all) (pos all) d ld (share_weights d)) packing columns low

      row_value_fits : (i : ℕ) → i < links → get_or b.values i 0 * (all / row_den b.rows i) < 2 ^ 124
      row_value_fits i l = subst (λ x. unsigned_abs x < 2 ^ 124) (sym (row_over_is i l)) (row_low i l)

      -- the value of any role over all is below 2 ^ 124
      pub role_low : (r : ℕ) → r < links + demands → unsigned_abs (role_over b all r) < 2 ^ 124
      role_low r l = subst (λ n. unsigned_abs (cond (ltb r n) (row_over b all r) (key_over b all (r - n) n)) < 2 ^ 124) (sym h.shaped.rows) (⊎_elim
          (λ lt. subst (λ t. unsigned_abs (cond t (row_over b all r) (key_over b all (r - links) links)) < 2 ^ 124) (sym (lt-ltb r links lt)) (row_value_fits r lt))
          (λ ge. let ld : r - links < demands = omega (arith, l, ge) in
          subst (λ t. unsigned_abs (cond t (row_over b all r) (key_over b all (r - links) links)) < 2 ^ 124) (sym (le-ltb r links ge))
          (subst (λ x. unsigned_abs x < 2 ^ 124) (sym (key_over_is (r - links) ld)) (key_low (r - links) ld)))
          (cases_lt r links))

      fit_over : FitOver b all
      fit_over = record {
        rows = λ i l. row_value_fits i (omega (arith, l, h.shaped.rows));
        bounds = λ d ld. let e = h.shaped.rows in let l : d < demands = omega (arith, ld, h.shaped.duals) in
            subst (λ n. pos 0 ≤ℤ num b.bounds (n + d)) (sym e) (subst (λ x. pos 0 ≤ℤ x) (sym (h.bounds (links + d) (omega (arith, l)))) (packing.bounds (links + d) (omega (arith, l))).0);
        keys = λ d n ld le. let l : d < demands = omega (arith, ld, h.shaped.duals) in
            subst (λ k. pos 0 ≤ℤ left_over_rows b.owners (shares b.rows all) d (pos all) (num b.bounds (k + d)) (amounts b.values) n) (sym h.shaped.rows)
            (left_nonneg h (shares b.rows all) (pos all) d n l (omega (arith, le, h.shaped.rows)) (share_weights d));
      }

  -- the values fit over each narrow common denominator
  pub fitting : (is_column : ColumnOf RouteColumn → Type 0) → IsPacking (links + demands) bound is_column → ((j : ℕ) → j < links + demands → is_column (basis j)) → HasFittingValues b
  fitting is_column packing columns all some low divides = fit_over all some low divides is_column packing columns

-- the value of one role more is written
pub role_written : (b : Keyed) (all role value : ℕ) (values : List ℕ) → AreApartPlaces b.places → role < length b.places → get_or b.places role 0 < length values → pos value ≡ role_over b all role
    → ((r : ℕ) → r < role → pos (get_or values (get_or b.places r 0) 0) ≡ role_over b all r)
    → (r : ℕ) → r < role + 1 → pos (get_or (slice_set values (get_or b.places role 0) value) (get_or b.places r 0) 0) ≡ role_over b all r
role_written b all role value values apart there lt is before r l = ⊎_elim
    (λ e. subst (λ k. pos (get_or (slice_set values (get_or b.places role 0) value) (get_or b.places k 0) 0) ≡ role_over b all k) (sym e)
    (ap pos (get_or-set_same values (get_or b.places role 0) value 0 lt) ∙ is))
    (λ ne. ap pos (get_or-set_other values (get_or b.places role 0) (get_or b.places r 0) value 0 (apart r role (omega (arith, l, ne)) there)) ∙ before r (omega (arith, l, ne)))
    (cases_eq r role)
