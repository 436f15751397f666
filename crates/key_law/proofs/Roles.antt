-- rows by their roles make a tableau, and a pick over the roles is a pick over its rows
use Rattle.std.proofs.Common.{◌≡◌, ℕ, ◌<◌, ◌≤◌, ◌+◌, ◌-◌, sym, ap, ◌∙◌, arith, cond, ltb, ⊎_elim, subst, lt-ltb, le-ltb, ℤ, pos, ◌*ℤ◌, ◌<ℤ◌}
use Rattle.net_core.proofs.Library.{cases_lt}
use Rattle.simplex_law.{specs.Terms.{dot, unit_vector, ColumnOf, IsRow, IsTableau, IsPick, IsRatioLe}, proofs.Lemmas.{same_tableau, weights}}
use Rattle.key_law.{specs.Kept.IsKept, specs.KeyRows.{full_kept, full_prices, full_key, key_nums, HaveWeights, role_nums, AreKeyRows}, specs.Turns.IsKeyPick, proofs.Kept.{kept_row, prices_row, cost_product, key_row}}

-- the denominators of the rows by role; those of the keys are given
abbrev pub role_den : ℕ → (ℕ → ℤ) → (ℕ → ℤ) → ℕ → ℤ
role_den links den of_den r = cond (ltb r links) (den r) (of_den (r - links))

-- each demand's columns brought over a denominator of its own
pub demand_rows : {N : Type 0} {links demands : ℕ} {bound : ℕ → ℤ} {basis : ℕ → ColumnOf N} {place role : ℕ → ℕ} {kept : ℕ → ℕ → ℤ} {den prices : ℕ → ℤ} {prices_den : ℤ}
    → IsKept links demands bound basis place role kept den prices prices_den → (weight : ℕ → ℕ → ℤ) (all : ℕ → ℤ)
    → ((d : ℕ) → d < demands → pos 0 <ℤ all d) → ((d : ℕ) → d < demands → HaveWeights links demands basis place den (weight d) d (all d))
    → AreKeyRows links demands basis place (λ d. key_nums links demands basis place kept (weight d) d) all
demand_rows h weight all positive weights = record { rows = λ d l. key_row h (weight d) (all d) d l (weights d l); over = positive }

-- there are such rows
pub some_key_rows : {N : Type 0} {links demands : ℕ} {bound : ℕ → ℤ} {basis : ℕ → ColumnOf N} {place role : ℕ → ℕ} {kept : ℕ → ℕ → ℤ} {den prices : ℕ → ℤ} {prices_den : ℤ}
    → IsKept links demands bound basis place role kept den prices prices_den → (of_keys : ℕ → ℕ → ℤ) × (of_den : ℕ → ℤ) × AreKeyRows links demands basis place of_keys of_den
some_key_rows {links = links} {basis = basis} {place = place} {den = den} h =
    let w = weights links den h.over in
    (_, _, demand_rows h (λ d. w.0) (λ d. w.1) (λ d l. w.2) (λ d l i li. ap (λ x. (basis (place i)).entry (links + d) *ℤ x) (w.3 i li)))

module _ {N : Type 0} {links demands : ℕ} {bound : ℕ → ℤ} {basis : ℕ → ColumnOf N} {place role : ℕ → ℕ} {kept : ℕ → ℕ → ℤ} {den prices : ℕ → ℤ} {prices_den : ℤ}
    {of_keys : ℕ → ℕ → ℤ} {of_den : ℕ → ℤ} (h : IsKept links demands bound basis place role kept den prices prices_den) (k : AreKeyRows links demands basis place of_keys of_den) where
  abbrev rows_of : ℕ → ℕ → ℤ
  rows_of = role_nums links demands basis place kept den of_keys of_den

  abbrev dens_of : ℕ → ℤ
  dens_of = role_den links den of_den

  at_link : (P : (ℕ → ℤ) → ℤ → Type 0) (r : ℕ) → r < links → P (full_kept links demands basis place (kept r) (den r)) (den r) → P (rows_of r) (dens_of r)
  at_link P r l p = subst (λ t. P (cond t (full_kept links demands basis place (kept r) (den r)) (full_key links demands basis place (r - links) (of_keys (r - links)) (of_den (r - links)))) (cond t (den r) (of_den (r - links))))
      (sym (lt-ltb r links l)) p

  at_key : (P : (ℕ → ℤ) → ℤ → Type 0) (r : ℕ) → links ≤ r → P (full_key links demands basis place (r - links) (of_keys (r - links)) (of_den (r - links))) (of_den (r - links)) → P (rows_of r) (dens_of r)
  at_key P r g p = subst (λ t. P (cond t (full_kept links demands basis place (kept r) (den r)) (full_key links demands basis place (r - links) (of_keys (r - links)) (of_den (r - links)))) (cond t (den r) (of_den (r - links))))
      (sym (le-ltb r links g)) p

  -- each role has its row of the inverse
  role_row : (r : ℕ) → r < links + demands → IsRow (links + demands) (λ j. (basis j).entry) (unit_vector (place r)) (rows_of r) (dens_of r) × (pos 0 <ℤ dens_of r)
  role_row r l = ⊎_elim
      (λ lt. at_link (λ u d. IsRow (links + demands) (λ j. (basis j).entry) (unit_vector (place r)) u d × (pos 0 <ℤ d)) r lt (kept_row h r lt, h.over r lt))
      (λ ge. at_key (λ u d. IsRow (links + demands) (λ j. (basis j).entry) (unit_vector (place r)) u d × (pos 0 <ℤ d)) r ge (
        subst (λ x. IsRow (links + demands) (λ j. (basis j).entry) (unit_vector (place x)) (full_key links demands basis place (r - links) (of_keys (r - links)) (of_den (r - links))) (of_den (r - links)))
            (whole r ge) (k.rows (r - links) (omega (arith, ge, l))),
        k.over (r - links) (omega (arith, ge, l)),
      ))
      (cases_lt r links)
    where
      whole : (r : ℕ) → links ≤ r → links + (r - links) ≡ r
      whole r ge = omega (arith, ge)

  -- they make a tableau
  pub role_tableau : IsTableau (links + demands) bound basis (λ j. rows_of (role j)) (λ j. dens_of (role j)) (full_prices links demands basis place prices prices_den) prices_den
  role_tableau = same_tableau (links + demands) bound basis h.whole.nums h.whole.den h.whole.duals h.whole.duals_den h.whole.tableau (λ j. rows_of (role j)) (λ j. dens_of (role j)) (full_prices links demands basis place prices prices_den) prices_den
      (λ j l. subst (λ x. IsRow (links + demands) (λ i. (basis i).entry) (unit_vector x) (rows_of (role j)) (dens_of (role j))) (h.roles.back j l) (role_row (role j) (h.roles.role_in j l)).0)
      (λ j l. (role_row (role j) (h.roles.role_in j l)).1)
      (prices_row h) h.above

  -- and a pick
  pub role_pick : (c : ColumnOf N) (r : ℕ) → IsKeyPick links demands bound basis place kept den prices prices_den of_keys of_den c r
      → IsPick (links + demands) bound (λ j. rows_of (role j)) (full_prices links demands basis place prices prices_den) prices_den c (place r)
  role_pick c r p = record {
    inside = h.roles.place_in r p.inside;
    positive = subst (λ x. pos 0 <ℤ dot (links + demands) (rows_of x) c.entry) (sym (h.roles.there r p.inside)) p.positive;
    gains = subst (λ x. x <ℤ pos 0) (sym (cost_product h c)) p.gains;
    ratio = λ j l ne more.
        subst (λ x. IsRatioLe (links + demands) bound c.entry (rows_of x) (rows_of (role j))) (sym (h.roles.there r p.inside))
        (p.ratio (role j) (h.roles.role_in j l) (λ e. ne (sym (h.roles.back j l) ∙ ap place e)) more);
  }
