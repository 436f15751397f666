-- the start at the slacks, and the values at the end
use Rattle.std.proofs.Common.{◌≡◌, ℕ, ◌<◌, ◌+◌, ◌-◌, refl, sym, ap, ◌∙◌, arith, cond, ltb, ⊎_elim, subst, lt-ltb, le-ltb, ℤ, pos, ◌*ℤ◌, ◌<ℤ◌, ◌≤ℤ◌}
use Rattle.net_core.proofs.Library.{cases_lt, cases_eq, ints, eq-one_of_dvd-one}
use Rattle.checked_fraction.specs.Terms.{IsInLowestTerms}
use Rattle.simplex_law.{specs.Terms.{dot, unit_vector, ColumnOf, slack_basis, Gains, IsOptimum, IsTableau}, proofs.Lemmas.{swap_last, dot-same, unit-same, unit-other, started, optimum}}
use Rattle.key_law.{specs.Keys.{left_target, AreRoles, AreKeys, key, key_part, left_column}, specs.KeyRows.{full_kept, full_prices, full_key, key_nums, key_dot, role_nums, role_value, AreKeyRows}, specs.Kept.IsKept, proofs.Spread.{is_spread, full_lowest}, proofs.Blocks.block_of, proofs.Kept.{inverse_block, row_product, key_row_product}, proofs.Roles.{demand_rows, role_tableau, role_den}}

module _ {N : Type 0} (links demands : ℕ) (bound : ℕ → ℤ) (slack : ℕ → N) (kept : ℕ → ℕ → ℤ) (den prices : ℕ → ℤ) (prices_den : ℤ)
    (bounds : (k : ℕ) → k < links + demands → pos 0 ≤ℤ bound k)
    (units : (i k : ℕ) → i < links → k < links → kept i k ≡ unit_vector i k) (ones : (i : ℕ) → i < links → den i ≡ pos 1)
    (zeros : (k : ℕ) → k < links → prices k ≡ pos 0) (one : prices_den ≡ pos 1) where
  first_tableau : IsTableau (links + demands) bound (slack_basis slack) unit_vector (λ i. pos 1) (λ k. pos 0) (pos 1)
  first_tableau = started (links + demands) bound slack unit_vector (λ i. pos 1) (λ k. pos 0) (pos 1) bounds (λ i k li lk. refl) (λ i l. refl) (λ k l. refl) refl

  here : AreRoles (links + demands) (λ r. r) (λ j. j)
  here = record { place_in = λ r l. l; role_in = λ j l. l; there = λ r l. refl; back = λ j l. refl }

  keys_are : AreKeys links demands (slack_basis slack) (λ r. r)
  keys_are d e ld le = ⊎_elim
      (λ same. subst (λ x. unit_vector (links + d) (links + x) ≡ unit_vector d x) same (unit-same (links + d) ∙ sym (unit-same d)))
      (λ ne. unit-other (links + d) (links + e) (λ f. ne (omega (arith, f))) ∙ sym (unit-other d e ne))
      (cases_eq d e)

  lowest_one : (nums : ℕ → ℤ) (d : ℤ) → d ≡ pos 1 → IsInLowestTerms links nums d
  lowest_one nums d e = subst (λ x. IsInLowestTerms links nums x) (sym e) (λ g of_den of_nums. eq-one_of_dvd-one of_den)

  -- of the slacks each demand's is its key, each place is its own role, and the inverse of the block is the unit matrix
  pub kept_start : IsKept links demands bound (slack_basis slack) (λ r. r) (λ j. j) kept den prices prices_den
  kept_start = record {
    whole = record { nums = unit_vector; den = λ i. pos 1; duals = λ k. pos 0; duals_den = pos 1; tableau = first_tableau };
    roles = here;
    keys = keys_are;
    rows = λ i j li lj. dot-same links (kept i) (unit_vector i) _ _ (λ k lk. units i k li lk) (λ k lk. refl)
        ∙ (inverse_block links demands (slack_basis slack) (λ r. r) (λ j. j) here keys_are i (unit_vector i) (pos 1) li (first_tableau.rows i (omega (arith, li))) j lj
        ∙ ap (λ x. x *ℤ unit_vector i j) (sym (ones i li)));
    over = λ i l. subst (λ x. pos 0 <ℤ x) (sym (ones i l)) (omega (arith, ints));
    lowest = λ i l. lowest_one (kept i) (den i) (ones i l);
    objective = λ j lj. dot-same links prices (λ k. pos 0) _ _ (λ k lk. zeros k lk) (λ k lk. refl)
        ∙ (block_of links demands (slack_basis slack) (λ r. r) (λ j. j) (λ j. pos 0) (λ k. pos 0) (pos 1) here keys_are first_tableau.objective j lj
        ∙ ap (λ x. x *ℤ left_target links demands (λ d. pos 0) (unit_vector j) (pos 0)) (sym one));
    above = subst (λ x. pos 0 <ℤ x) (sym one) (omega (arith, ints));
    prices_lowest = lowest_one prices prices_den one;
  }

module _ {N : Type 0} {links demands : ℕ} {bound : ℕ → ℤ} {basis : ℕ → ColumnOf N} {place role : ℕ → ℕ} {kept : ℕ → ℕ → ℤ} {den prices : ℕ → ℤ} {prices_den : ℤ}
    (h : IsKept links demands bound basis place role kept den prices prices_den)
    (weight : ℕ → ℤ) (all : ℤ) (weights : (i : ℕ) → i < links → weight i *ℤ den i ≡ all) (positive : pos 0 <ℤ all) where
  -- the keys' rows over the common denominator of the block
  pub key_rows : AreKeyRows links demands basis place (key_nums links demands basis place kept weight) (λ d. all)
  key_rows = demand_rows h (λ d. weight) (λ d. all) (λ d l. positive) (λ d l i li. ap (λ x. (basis (place i)).entry (links + d) *ℤ x) (weights i li))

  abbrev nums_of : ℕ → ℕ → ℤ
  nums_of = role_nums links demands basis place kept den (key_nums links demands basis place kept weight) (λ d. all)

  -- the weight of a role's row
  abbrev role_weight : ℕ → ℤ
  role_weight r = cond (ltb r links) (weight r) (pos 1)

  over_all : (r : ℕ) → r < links + demands → role_weight r *ℤ role_den links den (λ d. all) r ≡ all
  over_all r l = ⊎_elim
      (λ lt. subst (λ t. cond t (weight r) (pos 1) *ℤ cond t (den r) all ≡ all) (sym (lt-ltb r links lt)) (weights r lt))
      (λ ge. subst (λ t. cond t (weight r) (pos 1) *ℤ cond t (den r) all ≡ all) (sym (le-ltb r links ge)) (once all))
      (cases_lt r links)
    where
      once : (x : ℤ) → pos 1 *ℤ x ≡ x
      once x = omega (arith, ints)

  values_are : (r : ℕ) → r < links + demands → role_value links demands basis place kept weight all bound r ≡ role_weight r *ℤ dot (links + demands) (nums_of r) bound
  values_are r l = ⊎_elim
      (λ lt. subst (λ t. cond t kept_value key_value ≡ cond t (weight r) (pos 1) *ℤ dot (links + demands) (cond t full_row full_key_row) bound) (sym (lt-ltb r links lt))
      (ap (λ x. weight r *ℤ x) (sym (row_product h r bound))))
      (λ ge. subst (λ t. cond t kept_value key_value ≡ cond t (weight r) (pos 1) *ℤ dot (links + demands) (cond t full_row full_key_row) bound) (sym (le-ltb r links ge))
      (once (sym (key_row_product h weight all (r - links) (omega (arith, ge, l)) bound))))
      (cases_lt r links)
    where
      kept_value : ℤ
      kept_value = weight r *ℤ dot links (kept r) (left_column links demands basis place bound)

      key_value : ℤ
      key_value = key_dot links demands basis place kept weight all (r - links) bound

      full_row : ℕ → ℤ
      full_row = full_kept links demands basis place (kept r) (den r)

      full_key_row : ℕ → ℤ
      full_key_row = full_key links demands basis place (r - links) (key_nums links demands basis place kept weight (r - links)) all

      once : {x y : ℤ} → x ≡ y → x ≡ pos 1 *ℤ y
      once {x} {y} e = omega (arith, ints, e)

  -- where no column gains, the basis is best, with these values
  pub kept_optimum : (is_column : ColumnOf N → Type 0) → ((j : ℕ) → j < links + demands → is_column (basis j))
      → ((c : ColumnOf N) → is_column c → Gains (links + demands) (full_prices links demands basis place prices prices_den) prices_den c → ⊥)
      → IsOptimum (links + demands) bound is_column basis (λ j. role_value links demands basis place kept weight all bound (role j)) all (full_prices links demands basis place prices prices_den) prices_den
  kept_optimum is_column columns best = optimum (links + demands) bound is_column basis (λ j. nums_of (role j)) (λ j. role_den links den (λ d. all) (role j))
      (full_prices links demands basis place prices prices_den) prices_den _ all columns (role_tableau h key_rows)
      (full_lowest links demands (key_part links demands basis place) (λ d. (key links demands basis place d).gain) prices prices_den _
      (is_spread links demands (key_part links demands basis place) (λ d. (key links demands basis place d).gain) prices prices_den) h.prices_lowest)
      best positive (λ j l. whole_value (role j) (h.roles.role_in j l))
    where
      whole_value : (r : ℕ) → r < links + demands → role_value links demands basis place kept weight all bound r *ℤ role_den links den (λ d. all) r ≡ all *ℤ dot (links + demands) (nums_of r) bound
      whole_value r l = ap (λ x. x *ℤ role_den links den (λ d. all) r) (values_are r l)
          ∙ (swap_last (role_weight r) (dot (links + demands) (nums_of r) bound) (role_den links den (λ d. all) r) ∙ ap (λ x. x *ℤ dot (links + demands) (nums_of r) bound) (over_all r l))
