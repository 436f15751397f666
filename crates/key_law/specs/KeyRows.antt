-- the rows of the whole inverse, by what is kept
use Rattle.std.specs.Prelude.{ℕ, ℤ, pos, ◌≡◌, ◌<◌, ◌+◌, ◌-◌, ◌-ℤ◌, ◌*ℤ◌, ◌<ℤ◌, cond, ltb}
use Rattle.simplex_law.specs.Terms.{int_sum, dot, unit_vector, ColumnOf, IsRow}
use Rattle.key_law.specs.Keys.{left_target, spread, key, key_part, left_column}

module _ {N : Type 0} (links demands : ℕ) (basis : ℕ → ColumnOf N) (place : ℕ → ℕ) where
  -- a row of the block as a row of the inverse
  abbrev pub full_kept : (ℕ → ℤ) → ℤ → ℕ → ℤ
  full_kept = spread links (key_part links demands basis place) (λ d. pos 0)

  -- the prices of the links, and those that make each key's cost 0
  abbrev pub full_prices : (ℕ → ℤ) → ℤ → ℕ → ℤ
  full_prices = spread links (key_part links demands basis place) (λ d. (key links demands basis place d).gain)

  -- a row of demand d's key
  abbrev pub full_key : ℕ → (ℕ → ℤ) → ℤ → ℕ → ℤ
  full_key d = spread links (key_part links demands basis place) (unit_vector d)

  -- what a column costs at the prices of the links over den, less its gain: a column that gains has a negative cost
  abbrev pub cost : (ℕ → ℤ) → ℤ → ColumnOf N → ℤ
  cost prices den c = dot links prices (left_column links demands basis place c.entry)
      -ℤ (den *ℤ left_target links demands (λ d. (key links demands basis place d).gain) c.entry c.gain)

  -- weights bring the rows of demand d's columns in the block over the denominator all
  abbrev pub HaveWeights : (ℕ → ℤ) → (ℕ → ℤ) → ℕ → ℤ → Type 0
  HaveWeights den weight d all = (i : ℕ) → i < links → (basis (place i)).entry (links + d) *ℤ (weight i *ℤ den i) ≡ (basis (place i)).entry (links + d) *ℤ all

  -- how often row i of the block is taken from the row of demand d's key
  abbrev pub key_times : (ℕ → ℤ) → ℕ → ℕ → ℤ
  key_times weight d i = (basis (place i)).entry (links + d) *ℤ weight i

  -- the link entries of its key's row over all: less the rows of the demand's columns
  abbrev pub key_nums : (ℕ → ℕ → ℤ) → (ℕ → ℤ) → ℕ → ℕ → ℤ
  key_nums kept weight d k = pos 0 -ℤ int_sum links (λ i. key_times weight d i *ℤ kept i k)

  -- the product of that row with a column, or, with the bounds, its value
  abbrev pub key_dot : (ℕ → ℕ → ℤ) → (ℕ → ℤ) → ℤ → ℕ → (ℕ → ℤ) → ℤ
  key_dot kept weight all d a = (all *ℤ a (links + d)) -ℤ int_sum links
      (λ i. key_times weight d i *ℤ dot links (kept i) (left_column links demands basis place a))

  -- the rows of the inverse by role; those of the keys are given, over any denominators
  abbrev pub role_nums : (ℕ → ℕ → ℤ) → (ℕ → ℤ) → (ℕ → ℕ → ℤ) → (ℕ → ℤ) → ℕ → ℕ → ℤ
  role_nums kept den of_keys of_den r = cond (ltb r links) (full_kept (kept r) (den r)) (full_key (r - links) (of_keys (r - links)) (of_den (r - links)))

  -- the value of a role over a common denominator of the block
  abbrev pub role_value : (ℕ → ℕ → ℤ) → (ℕ → ℤ) → ℤ → (ℕ → ℤ) → ℕ → ℤ
  role_value kept weight all bound r = cond (ltb r links) (weight r *ℤ dot links (kept r) (left_column links demands basis place bound))
      (key_dot kept weight all (r - links) bound)

-- a row of each demand's key, over a positive denominator
pub record AreKeyRows {N : Type 0} (links demands : ℕ) (basis : ℕ → ColumnOf N) (place : ℕ → ℕ) (of_keys : ℕ → ℕ → ℤ) (of_den : ℕ → ℤ) : Type 0 where
  pub rows : (d : ℕ) → d < demands
      → IsRow (links + demands) (λ j. (basis j).entry) (unit_vector (place (links + d))) (full_key links demands basis place d (of_keys d) (of_den d))
      (of_den d)
  pub over : (d : ℕ) → d < demands → pos 0 <ℤ of_den d
