-- rows of links, then rows of demands, of which each has a key column
use Rattle.std.specs.Prelude.{ℕ, ℤ, ◌≡◌, ◌<◌, ◌+◌, ◌-◌, ◌-ℤ◌, ◌*ℤ◌, cond, eqb, ltb}
use Rattle.simplex_law.specs.Terms.{int_sum, dot, unit_vector, ColumnOf}

-- Rows 0 to links - 1 are those of links, and row links + d is that of demand d. In a basis, one column of each demand is its key, a
-- path or the demand's slack. Of the other columns only what differs from the keys is kept: where the key of a demand runs over link 2,
-- a path of it over links 0 and 1 leaves 1, 1 and -1.

-- a column in the rows of links, less each key times the column's entry in the key's demand
abbrev pub difference : ℕ → ℕ → (ℕ → ℕ → ℤ) → (ℕ → ℤ) → ℕ → ℤ
difference links demands keys a k = a k -ℤ int_sum demands (λ d. a (links + d) *ℤ keys d k)

-- A row over den takes a number at a column where their product is den times that number. A row of the inverse takes 1 at its own
-- column and 0 at the others of the basis, and the prices take each column's gain.

-- what a row takes at a column, less what it takes at each key as often
abbrev pub left_target : ℕ → ℕ → (ℕ → ℤ) → (ℕ → ℤ) → ℤ → ℤ
left_target links demands key_target a target = target -ℤ int_sum demands (λ d. a (links + d) *ℤ key_target d)

-- a row over den that is nums in the rows of links, and in each demand's row what makes it take the key's target at the key
pub record IsSpread (links demands : ℕ) (keys : ℕ → ℕ → ℤ) (key_target nums : ℕ → ℤ) (den : ℤ) (full : ℕ → ℤ) : Type 0 where
  pub link : (k : ℕ) → k < links → full k ≡ nums k
  pub demand : (d : ℕ) → d < demands → full (links + d) ≡ (den *ℤ key_target d) -ℤ dot links nums (keys d)

-- the row that is so
abbrev pub spread : ℕ → (ℕ → ℕ → ℤ) → (ℕ → ℤ) → (ℕ → ℤ) → ℤ → ℕ → ℤ
spread links keys key_target nums den k = cond (ltb k links) (nums k) ((den *ℤ key_target (k - links)) -ℤ dot links nums (keys (k - links)))

-- Columns keep their places in a basis, and what a column is there for is its role. Role links + d is the key of demand d. The columns
-- that aren't keys make a square block, what the keys leave of them, and role i below links is row i of the block's inverse.

-- the place of each of m roles, and the role at each place
pub record AreRoles (m : ℕ) (place role : ℕ → ℕ) : Type 0 where
  pub place_in : (r : ℕ) → r < m → place r < m
  pub role_in : (j : ℕ) → j < m → role j < m
  pub there : (r : ℕ) → r < m → role (place r) ≡ r
  pub back : (j : ℕ) → j < m → place (role j) ≡ j

-- each of a and b in place of the other
abbrev pub swap : ℕ → ℕ → ℕ → ℕ
swap a b r = cond (eqb a r) b (cond (eqb b r) a r)

module _ {N : Type 0} (links demands : ℕ) (basis : ℕ → ColumnOf N) (place : ℕ → ℕ) where
  -- the key of a demand
  abbrev pub key : ℕ → ColumnOf N
  key d = basis (place (links + d))

  -- its entries
  abbrev pub key_part : ℕ → ℕ → ℤ
  key_part d = (key d).entry

  -- a key has the entry 1 in its demand, and 0 in each other
  abbrev pub AreKeys : Type 0
  AreKeys = (d e : ℕ) → d < demands → e < demands → (key d).entry (links + e) ≡ unit_vector d e

  -- what the keys leave of a column, or of the bounds
  abbrev pub left_column : (ℕ → ℤ) → ℕ → ℤ
  left_column = difference links demands key_part

  -- column j of the block: what the keys leave of a basic column that is no key
  abbrev pub block : ℕ → ℕ → ℤ
  block j = left_column (basis (place j)).entry

  -- nums over den takes at each column of the block what the keys leave of its target
  abbrev pub IsBlockRow : (ℕ → ℤ) → (ℕ → ℤ) → ℤ → Type 0
  IsBlockRow target nums den = (j : ℕ) → j < links
      → dot links nums (block j) ≡ den *ℤ left_target links demands (λ d. target (place (links + d))) (basis (place j)).entry (target (place j))
