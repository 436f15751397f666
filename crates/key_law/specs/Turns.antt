-- turns of a basis of which the block is kept
use Rattle.std.specs.Prelude.{ℕ, ℤ, pos, ◌≡◌, ◌≢◌, ◌<◌, ◌+◌, ◌*ℤ◌, ◌<ℤ◌}
use Rattle.checked_fraction.specs.Terms.{IsReduced, combined}
use Rattle.simplex_law.specs.Terms.{dot, unit_vector, ColumnOf, IsRatioLe}
use Rattle.key_law.{specs.Keys.left_column, specs.KeyRows.{cost, HaveWeights, key_nums, role_nums}}

-- Three things may happen to the roles. A column of the block leaves: its row is the pivot of all rows of the block, and the keys stay.
-- A key leaves that has no other basic column of its demand: the entering column is the new key, and the block stays. A key and a
-- column of its demand change roles: the basis stays, and one row of the block becomes that of the old key.

-- column c enters for the column of role r: it gains, and r is first by the ratio test over all roles
pub record IsKeyPick {N : Type 0} (links demands : ℕ) (bound : ℕ → ℤ) (basis : ℕ → ColumnOf N) (place : ℕ → ℕ) (kept : ℕ → ℕ → ℤ) (den : ℕ → ℤ)
    (prices : ℕ → ℤ) (prices_den : ℤ) (of_keys : ℕ → ℕ → ℤ) (of_den : ℕ → ℤ) (c : ColumnOf N) (r : ℕ) : Type 0 where
  pub inside : r < links + demands
  pub positive : pos 0 <ℤ dot (links + demands) (role_nums links demands basis place kept den of_keys of_den r) c.entry
  pub gains : cost links demands basis place prices prices_den c <ℤ pos 0
  pub ratio : (i : ℕ) → i < links + demands → i ≢ r → pos 0 <ℤ dot (links + demands) (role_nums links demands basis place kept den of_keys of_den i) c.entry
      → IsRatioLe (links + demands) bound c.entry (role_nums links demands basis place kept den of_keys of_den r)
      (role_nums links demands basis place kept den of_keys of_den i)

-- the rows of the block and the prices after the column of row r has left for c: each combined with row r, in lowest terms
pub record IsBlockTurned {N : Type 0} (links demands : ℕ) (basis : ℕ → ColumnOf N) (place : ℕ → ℕ) (c : ColumnOf N) (r : ℕ) (kept next : ℕ → ℕ → ℤ)
    (den next_den : ℕ → ℤ)
    (prices later : ℕ → ℤ) (prices_den later_den : ℤ) : Type 0 where
  pub others : (i : ℕ) → i < links → i ≢ r
      → IsReduced links (combined (kept i) (dot links (kept i) (left_column links demands basis place c.entry)) (kept r)
      (dot links (kept r) (left_column links demands basis place c.entry)))
      (den i *ℤ dot links (kept r) (left_column links demands basis place c.entry)) (next i) (next_den i)
  pub pivot : IsReduced links (kept r) (dot links (kept r) (left_column links demands basis place c.entry)) (next r) (next_den r)
  pub prices_are : IsReduced links (combined prices (cost links demands basis place prices prices_den c) (kept r)
      (dot links (kept r) (left_column links demands basis place c.entry)))
      (prices_den *ℤ dot links (kept r) (left_column links demands basis place c.entry)) later later_den

-- c is a column of demand d, and no column of the block is one, so that c may take the place of the key
pub record IsLoneKey {N : Type 0} (links demands : ℕ) (basis : ℕ → ColumnOf N) (place : ℕ → ℕ) (c : ColumnOf N) (d : ℕ) : Type 0 where
  pub inside : d < demands
  pub owned : (e : ℕ) → e < demands → c.entry (links + e) ≡ unit_vector d e
  pub alone : (j : ℕ) → j < links → (basis (place j)).entry (links + d) ≡ pos 0

-- the rows of the block after its column of row i, which is one of demand d, and the demand's key have changed roles
pub record IsExchanged {N : Type 0} (links demands : ℕ) (basis : ℕ → ColumnOf N) (place : ℕ → ℕ) (i d : ℕ) (kept next : ℕ → ℕ → ℤ) (den next_den : ℕ → ℤ)
    (weight : ℕ → ℤ) (all : ℤ) : Type 0 where
  pub row_in : i < links
  pub demand_in : d < demands
  pub owned : (e : ℕ) → e < demands → (basis (place i)).entry (links + e) ≡ unit_vector d e
  pub weights : HaveWeights links demands basis place den weight d all
  pub positive : pos 0 <ℤ all
  pub row : IsReduced links (key_nums links demands basis place kept weight d) all (next i) (next_den i)
  pub rest : (j k : ℕ) → j < links → j ≢ i → k < links → next j k ≡ kept j k
  pub rest_den : (j : ℕ) → j < links → j ≢ i → next_den j ≡ den j
