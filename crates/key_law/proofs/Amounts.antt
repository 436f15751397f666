-- the values of the rows of the block and of the keys
use Rattle.std.proofs.Common.{ℕ, ◌<◌, ◌≤◌, ◌+◌, ◌^◌, arith, subst, unsigned_abs, ℤ, pos, ◌-ℤ◌, ◌*ℤ◌, ◌<ℤ◌, ◌≤ℤ◌}
use Rattle.net_core.proofs.Library.{ints}
use Rattle.checked_fraction.specs.Terms.{IsNarrow}
use Rattle.simplex_law.{specs.Terms.{int_sum, dot, ColumnOf, IsPacking, Gains}, proofs.Lemmas.{times_nonneg, limited, row_value_nonneg, row_value_low, sum_grows}}
use Rattle.key_law.{specs.Keys.left_column, specs.KeyRows.{full_prices, HaveWeights, key_times, key_dot, role_nums, AreKeyRows}, specs.Kept.IsKept, proofs.Kept.{kept_row, row_product, key_row, key_row_product}, proofs.Roles.role_tableau}

module _ {N : Type 0} {links demands : ℕ} {bound : ℕ → ℤ} {basis : ℕ → ColumnOf N} {place role : ℕ → ℕ} {kept : ℕ → ℕ → ℤ} {den prices : ℕ → ℤ} {prices_den : ℤ}
    (is_column : ColumnOf N → Type 0) (h : IsKept links demands bound basis place role kept den prices prices_den) where
  -- a column that gains is limited by a row of the block or a key
  pub some_limit : {of_keys : ℕ → ℕ → ℤ} {of_den : ℕ → ℤ} → AreKeyRows links demands basis place of_keys of_den → (c : ColumnOf N)
      → IsPacking (links + demands) bound is_column → ((j : ℕ) → j < links + demands → is_column (basis j)) → is_column c
      → Gains (links + demands) (full_prices links demands basis place prices prices_den) prices_den c
      → ((r : ℕ) → r < links + demands → dot (links + demands) (role_nums links demands basis place kept den of_keys of_den r) c.entry ≤ℤ pos 0) → ⊥
  some_limit k c packing columns is_c gains none = limited (links + demands) bound is_column basis _ _ _ _ c packing columns is_c (role_tableau h k) gains (λ j l. none (role j) (h.roles.role_in j l))

  -- the value of a row of the block isn't negative, and below 2 ^ 124
  pub kept_value_nonneg : (i : ℕ) → i < links → pos 0 ≤ℤ dot links (kept i) (left_column links demands basis place bound)
  kept_value_nonneg i l = subst (λ x. pos 0 ≤ℤ x) (row_product h i bound)
      (row_value_nonneg (links + demands) bound is_column basis h.whole (place i) _ (den i) (h.roles.place_in i (omega (arith, l))) (kept_row h i l) (h.over i l))

  pub kept_value_low : (i : ℕ) → i < links → IsPacking (links + demands) bound is_column → ((j : ℕ) → j < links + demands → is_column (basis j)) → IsNarrow (den i)
      → unsigned_abs (dot links (kept i) (left_column links demands basis place bound)) < 2 ^ 124
  kept_value_low i l packing columns narrow = subst (λ x. unsigned_abs x < 2 ^ 124) (row_product h i bound)
      (row_value_low (links + demands) bound is_column basis h.whole (place i) _ (den i) (h.roles.place_in i (omega (arith, l))) (kept_row h i l) (h.over i l) packing columns narrow)

  -- the value of a key's row, over a denominator for its demand's columns, isn't negative, and below 2 ^ 124
  module _ (weight : ℕ → ℤ) (all : ℤ) (d : ℕ) (l : d < demands) (positive : pos 0 <ℤ all) (weights : HaveWeights links demands basis place den weight d all) where
    pub key_value_nonneg : pos 0 ≤ℤ key_dot links demands basis place kept weight all d bound
    key_value_nonneg = subst (λ x. pos 0 ≤ℤ x) (key_row_product h weight all d l bound)
        (row_value_nonneg (links + demands) bound is_column basis h.whole (place (links + d)) _ all (h.roles.place_in (links + d) (omega (arith, l))) (key_row h weight all d l weights) positive)

    pub key_value_low : IsPacking (links + demands) bound is_column → ((j : ℕ) → j < links + demands → is_column (basis j)) → IsNarrow all
        → unsigned_abs (key_dot links demands basis place kept weight all d bound) < 2 ^ 124
    key_value_low packing columns narrow = subst (λ x. unsigned_abs x < 2 ^ 124) (key_row_product h weight all d l bound)
        (row_value_low (links + demands) bound is_column basis h.whole (place (links + d)) _ all (h.roles.place_in (links + d) (omega (arith, l))) (key_row h weight all d l weights) positive packing columns narrow)

    -- what the first rows take of the demand's bound is no more than that bound
    pub key_part_low : (n : ℕ) → n ≤ links → ((i : ℕ) → i < links → pos 0 ≤ℤ key_times links demands basis place weight d i)
        → int_sum n (λ i. key_times links demands basis place weight d i *ℤ dot links (kept i) (left_column links demands basis place bound)) ≤ℤ (all *ℤ bound (links + d))
    key_part_low n le high = under
        (sum_grows links n (λ i. key_times links demands basis place weight d i *ℤ dot links (kept i) (left_column links demands basis place bound))
        (λ i li. times_nonneg (key_times links demands basis place weight d i) (dot links (kept i) (left_column links demands basis place bound)) (high i li) (kept_value_nonneg i li)) le)
        key_value_nonneg
      where
        under : {x y z : ℤ} → x ≤ℤ y → pos 0 ≤ℤ (z -ℤ y) → x ≤ℤ z
        under {x} {y} {z} a b = omega (arith, ints, a, b)
