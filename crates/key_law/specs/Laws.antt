-- what a method that keeps the block alone rests on: rows of the whole basis, its optimum, and turns that are steps and end
use Rattle.std.specs.Prelude.{Bool, ℕ, ℤ, pos, ◌≡◌, ◌<◌, ◌+◌, ◌*ℤ◌, ◌<ℤ◌}
use Rattle.checked_fraction.specs.Terms.{IsNarrow}
use Rattle.simplex_law.specs.Terms.{ColumnOf, IsRow, Gains, IsReached, IsOptimum, AreNarrowDuals, left_over}
use Rattle.key_law.{specs.Keys.{spread, AreRoles, AreKeys, IsBlockRow, key_part}, specs.Kept.IsKept, specs.KeyRows.{full_prices, role_value}, specs.KeyedBases.{IsColumnBy, KeyedBasis, whole_rows, whole_prices, KeyedTurn, basis_after}}

module _ (N : Type 0) where
  -- a row of the block, spread, is a row of the whole basis
  abbrev pub FullRows : Type 0
  FullRows = (links demands : ℕ) (basis : ℕ → ColumnOf N) (place role : ℕ → ℕ) (target nums : ℕ → ℤ) (den : ℤ)
      → AreRoles (links + demands) place role
      → AreKeys links demands basis place
      → IsBlockRow links demands basis place target nums den
      → IsRow (links + demands) (λ j. (basis j).entry) target (spread links (key_part links demands basis place) (λ d. target (place (links + d))) nums den) den

  -- where no column gains, the values of the roles over a common denominator of the block make an optimum
  abbrev pub KeptOptimum : Type 0
  KeptOptimum = (k : KeyedBasis N) (test : ColumnOf N → Bool) (weight : ℕ → ℤ) (all : ℤ)
      → ((j : ℕ) → j < whole_rows k → IsColumnBy test (k.basis j))
      → ((c : ColumnOf N) → IsColumnBy test c → Gains (whole_rows k) (whole_prices k) k.prices_den c → ⊥)
      → ((i : ℕ) → i < k.links → weight i *ℤ k.den i ≡ all)
      → pos 0 <ℤ all
      → IsOptimum (whole_rows k) k.bound (IsColumnBy test) k.basis
      (λ j. role_value k.links k.demands k.basis k.place k.kept weight all k.bound (k.role j)) all (whole_prices k) k.prices_den

  -- the next basis is reached where this one is
  abbrev pub TurnsReach : Type 0
  TurnsReach = (t : KeyedTurn N) (test : ColumnOf N → Bool) (first : ℕ → ColumnOf N)
      → IsColumnBy test t.enters
      → IsReached (whole_rows t.before) t.before.bound (IsColumnBy test) first t.before.basis
      → IsReached (whole_rows t.before) t.before.bound (IsColumnBy test) first (basis_after t)

  -- where bounds and prices are narrow, less is left over after a turn, whatever the roles are then
  abbrev pub TurnsFall : Type 0
  TurnsFall = (t : KeyedTurn N) (place role : ℕ → ℕ) (next : ℕ → ℕ → ℤ) (next_den later : ℕ → ℤ) (later_den : ℤ)
      → IsKept t.before.links t.before.demands t.before.bound (basis_after t) place role next next_den later later_den
      → ((j : ℕ) → j < whole_rows t.before → IsNarrow (t.before.bound j))
      → AreNarrowDuals (whole_rows t.before) (whole_prices t.before) t.before.prices_den
      → AreNarrowDuals (whole_rows t.before) (full_prices t.before.links t.before.demands (basis_after t) place later later_den) later_den
      → left_over (whole_rows t.before) t.before.bound (full_prices t.before.links t.before.demands (basis_after t) place later later_den) later_den
      < left_over (whole_rows t.before) t.before.bound (whole_prices t.before) t.before.prices_den
