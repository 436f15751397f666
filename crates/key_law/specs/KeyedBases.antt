-- a basis with its keys and what is kept of it, and a turn of it
use Rattle.std.specs.Prelude.{Bool, ℕ, ℤ, ◌+◌, IsTrue}
use Rattle.simplex_law.specs.Terms.{put, ColumnOf}
use Rattle.key_law.{specs.Keys.left_column, specs.Kept.IsKept, specs.KeyRows.{full_prices, cost, AreKeyRows}, specs.Turns.IsKeyPick}

-- the columns of a program, as a test tells them
abbrev pub IsColumnBy : {N : Type 0} → (ColumnOf N → Bool) → ColumnOf N → Type 0
IsColumnBy test c = IsTrue (test c)

-- a basis with keys, and what is kept of it: the place of each role and the role at each place, the rows of the block's inverse, each
-- over a denominator of its own, and the prices of the links
pub record KeyedBasis (N : Type 0) : Type 0 where
  pub links : ℕ
  pub demands : ℕ
  pub bound : ℕ → ℤ
  pub basis : ℕ → ColumnOf N
  pub place : ℕ → ℕ
  pub role : ℕ → ℕ
  pub kept : ℕ → ℕ → ℤ
  pub den : ℕ → ℤ
  pub prices : ℕ → ℤ
  pub prices_den : ℤ
  pub is_kept : IsKept links demands bound basis place role kept den prices prices_den

module _ {N : Type 0} (k : KeyedBasis N) where
  -- how many rows the program has
  abbrev pub whole_rows : ℕ
  whole_rows = k.links + k.demands

  -- what its keys leave of a column, or of the bounds
  abbrev pub left_of : (ℕ → ℤ) → ℕ → ℤ
  left_of = left_column k.links k.demands k.basis k.place

  -- the prices of all rows
  abbrev pub whole_prices : ℕ → ℤ
  whole_prices = full_prices k.links k.demands k.basis k.place k.prices k.prices_den

  -- what a column costs at these prices, less its gain
  abbrev pub whole_cost : ColumnOf N → ℤ
  whole_cost = cost k.links k.demands k.basis k.place k.prices k.prices_den

-- a column that gains enters for that of a role, by the ratio test
pub record KeyedTurn (N : Type 0) : Type 0 where
  pub before : KeyedBasis N
  pub of_keys : ℕ → ℕ → ℤ
  pub of_den : ℕ → ℤ
  pub key_rows : AreKeyRows before.links before.demands before.basis before.place of_keys of_den
  pub enters : ColumnOf N
  pub leaves : ℕ
  pub pick : IsKeyPick before.links before.demands before.bound before.basis before.place before.kept before.den
      before.prices before.prices_den of_keys of_den enters leaves

-- the basis after the turn
abbrev pub basis_after : {N : Type 0} → KeyedTurn N → ℕ → ColumnOf N
basis_after t = put t.before.basis (t.before.place t.leaves) t.enters
