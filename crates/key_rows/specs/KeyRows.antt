-- rows, steps and values of keys, by the rows of their demands' other columns
use Rattle.std.specs.Prelude.{ℕ, ℤ, List, length, pos, ◌≡◌, ◌<◌, ◌≤◌, ◌^◌, ◌-ℤ◌, ◌*ℤ◌, ◌<ℤ◌, ◌⊎◌, unsigned_abs, get_or, cond, eqb}
use Rattle.checked_fraction.{specs.Terms.{num, IsNarrow, IsTooWide}, specs.declared.row.Row.Row, specs.declared.wide.WideNumber.WideNumber}
use Rattle.simplex_law.specs.Terms.{int_sum, unit_vector, dot}
use Rattle.simplex_core.specs.Terms.{nums_at, den_at}

-- row i is one of demand d
abbrev pub IsOwn : List ℕ → ℕ → ℕ → Type 0
IsOwn owners d i = get_or owners i 0 ≡ d

-- the numbers of a list of values
abbrev pub amounts : List ℕ → ℕ → ℤ
amounts values i = pos (get_or values i 0)

-- values of rows are their products with what the keys leave of the links
abbrev pub HaveValues : ℕ → List Row → (ℕ → ℤ) → List ℕ → Type 0
HaveValues links rows rest values = (i : ℕ) → i < links → amounts values i ≡ dot links (nums_at rows i) rest

-- how often row i is taken away from the row of demand d's key
abbrev pub times_taken : List ℕ → List ℤ → ℕ → ℕ → ℤ
times_taken owners weights d i = unit_vector (get_or owners i 0) d *ℤ num weights i

-- the first n rows of demand d, each times its weight
abbrev pub weighted : List ℕ → List ℤ → ℕ → (ℕ → ℤ) → ℕ → ℤ
weighted owners weights d f n = int_sum n (λ i. times_taken owners weights d i *ℤ f i)

-- number k of the row of demand d's key: less the first n rows of the demand
abbrev pub less_rows : List Row → List ℕ → List ℤ → ℕ → ℕ → ℕ → ℤ
less_rows rows owners weights d n k = pos 0 -ℤ weighted owners weights d (λ i. nums_at rows i k) n

-- what the first n rows of demand d leave of all times own
abbrev pub left_over_rows : List ℕ → List ℤ → ℕ → ℤ → ℤ → (ℕ → ℤ) → ℕ → ℤ
left_over_rows owners weights d all own f n = (all *ℤ own) -ℤ weighted owners weights d f n

-- the denominator of row i where it is one of demand d, and 1 for the others
abbrev pub own_den : List Row → List ℕ → ℕ → ℕ → ℕ
own_den rows owners d i = cond (eqb (get_or owners i 0) d) (unsigned_abs (den_at rows i)) 1

-- all is narrow, and the weights bring each row of demand d over it
pub record AreWeights (rows : List Row) (owners : List ℕ) (weights : List ℤ) (d : ℕ) (all : ℤ) : Type 0 where
  pub positive : pos 0 <ℤ all
  pub narrow : IsNarrow all
  pub each : (i : ℕ) → i < length rows → IsOwn owners d i → num weights i *ℤ den_at rows i ≡ all

-- one of the first n numbers is 2 ^ 124 or more
abbrev pub HasWide : (ℕ → ℤ) → ℕ → Type 0
HasWide f n = (k : ℕ) × (k < n) × (2 ^ 124 ≤ unsigned_abs (f k))

-- a row over all that is too wide in lowest terms, whether that is seen before or after the division
abbrev pub IsWideKey : (ℕ → ℤ) → ℕ → ℤ → Type 0
IsWideKey f n all = HasWide f n ⊎ ((wide : WideNumber) × IsTooWide n f all wide)
