-- the weights of a key's rows and the numbers of its row, as far as they are written
use Rattle.std.specs.Prelude.{ℕ, ℤ, List, pos, ◌≡◌, ◌<◌, ◌≤◌, ◌^◌, ◌*ℤ◌, unsigned_abs}
use Rattle.checked_fraction.{specs.Terms.{num, IsNarrow}, specs.declared.row.Row.Row}
use Rattle.simplex_core.specs.Terms.{den_at}
use Rattle.key_rows.specs.KeyRows.{IsOwn}

-- the weights of the first n rows bring those of demand d over all
pub record AreWritten (rows : List Row) (owners : List ℕ) (weights : List ℤ) (d all n : ℕ) : Type 0 where
  pub narrow : (i : ℕ) → IsNarrow (num weights i)
  pub each : (i : ℕ) → i < n → IsOwn owners d i → num weights i *ℤ den_at rows i ≡ pos all

-- the first n numbers of a list are those of f, and no more than 2 ^ 124
pub record AreRaw (f : ℕ → ℤ) (n : ℕ) (raw : List ℤ) : Type 0 where
  pub each : (k : ℕ) → k < n → num raw k ≡ f k
  pub bound : (k : ℕ) → k < n → unsigned_abs (num raw k) ≤ 2 ^ 124
