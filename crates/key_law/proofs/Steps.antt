-- a turn is a step of the whole basis: the next one is reached, and less is left over
use Rattle.std.proofs.Common.{ℕ, ◌<◌, ◌+◌, ℤ}
use Rattle.checked_fraction.specs.Terms.{IsNarrow}
use Rattle.simplex_law.{specs.Terms.{put, ColumnOf, IsReached, AreNarrowDuals, left_over, IsPick}, proofs.Lemmas.{left_over_falls, Rises, turn_reached, rises_to}}
use Rattle.key_law.{specs.KeyRows.{full_prices, role_nums, AreKeyRows}, specs.Kept.IsKept, proofs.Kept.prices_row, proofs.Roles.role_tableau}

module _ {N : Type 0} {links demands : ℕ} {bound : ℕ → ℤ} {basis : ℕ → ColumnOf N} {place role : ℕ → ℕ} {kept : ℕ → ℕ → ℤ} {den prices : ℕ → ℤ} {prices_den : ℤ}
    {of_keys : ℕ → ℕ → ℤ} {of_den : ℕ → ℤ} (h : IsKept links demands bound basis place role kept den prices prices_den) (k : AreKeyRows links demands basis place of_keys of_den)
    (c : ColumnOf N) (r : ℕ)
    (pick : IsPick (links + demands) bound (λ j. role_nums links demands basis place kept den of_keys of_den (role j)) (full_prices links demands basis place prices prices_den) prices_den c (place r)) where
  -- the next basis is reached
  pub key_reached : (is_column : ColumnOf N → Type 0) (first : ℕ → ColumnOf N) → is_column c → IsReached (links + demands) bound is_column first basis → IsReached (links + demands) bound is_column first (put basis (place r) c)
  key_reached is_column first is_c reached = turn_reached (links + demands) bound is_column first basis _ _ _ _ c (place r) is_c (role_tableau h k) pick reached

  -- its prices rise, whatever its roles are
  pub key_rises : {other_place other_role : ℕ → ℕ} {next : ℕ → ℕ → ℤ} {next_den later : ℕ → ℤ} {later_den : ℤ}
      → IsKept links demands bound (put basis (place r) c) other_place other_role next next_den later later_den
      → Rises (links + demands) bound (full_prices links demands basis place prices prices_den) prices_den (full_prices links demands (put basis (place r) c) other_place later later_den) later_den
  key_rises {other_place} {other_role} {next} {next_den} {later} {later_den} after =
      rises_to (links + demands) bound basis _ _ _ _ c (place r) _ later_den (role_tableau h k) pick (prices_row after) after.above

  -- so less is left over, where the bounds and both prices are narrow
  pub key_falls : {other_place other_role : ℕ → ℕ} {next : ℕ → ℕ → ℤ} {next_den later : ℕ → ℤ} {later_den : ℤ}
      → ((x : ℕ) → x < links + demands → IsNarrow (bound x))
      → AreNarrowDuals (links + demands) (full_prices links demands basis place prices prices_den) prices_den
      → AreNarrowDuals (links + demands) (full_prices links demands (put basis (place r) c) other_place later later_den) later_den
      → IsKept links demands bound (put basis (place r) c) other_place other_role next next_den later later_den
      → left_over (links + demands) bound (full_prices links demands (put basis (place r) c) other_place later later_den) later_den
      < left_over (links + demands) bound (full_prices links demands basis place prices prices_den) prices_den
  key_falls bounds narrow narrow_later after = left_over_falls (links + demands) bound _ prices_den _ _ bounds narrow narrow_later (key_rises after)
