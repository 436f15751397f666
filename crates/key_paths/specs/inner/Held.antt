-- a basis that is held by its keys, and a column that enters it
use Rattle.std.specs.Prelude.{ℕ, ℤ, List, length, Some, pos, get_or, ◌≡◌, ◌<◌, ◌≤◌, ◌+◌, ◌≤ℤ◌, ◌⊎◌}
use Rattle.checked_fraction.specs.Terms.{num}
use Rattle.plan_terms.specs.Terms.{RouteColumn, LinkId}
use Rattle.simplex_law.specs.Terms.{HoldsRow, ColumnOf, dot, IsPick}
use Rattle.simplex_core.specs.Terms.{nums_at, den_at}
use Rattle.key_law.specs.Terms.{left_column, cost, full_prices, role_nums, AreKeyRows}
use Rattle.key_rows.{specs.Terms.{IsColumnNamed, IsKeyed, demand_in, column_name, uses, path_uses, IsNameWithin, IsShortPath}, specs.declared.keyed.Keyed.Keyed}

-- 0 or 1
abbrev pub IsZeroOrOne : ℤ → Type 0
IsZeroOrOne x = (x ≡ pos 0) ⊎ (x ≡ pos 1)

-- a name of links and a demand that there are, of which none is taken twice
pub record IsNameOf (links demands : ℕ) (name : RouteColumn) : Type 0 where
  pub within : IsNameWithin links name
  pub demand : (d : ℕ) → demand_in name ≡ Some d → d < demands
  pub once : (k : ℕ) → k < links → IsZeroOrOne (uses name k)

-- a path along links that there are, of which none is taken twice
pub record IsOnce (links : ℕ) (path : List LinkId) : Type 0 where
  pub short : IsShortPath links path
  pub once : (k : ℕ) → k < links → IsZeroOrOne (path_uses path k)

-- as many names as there are columns, each that of its column
pub record AreColumnNames (links demands : ℕ) (basis : ℕ → ColumnOf RouteColumn) (names : List RouteColumn) : Type 0 where
  pub count : length names ≡ links + demands
  pub each : (j : ℕ) → j < links + demands → IsColumnNamed links demands (column_name names j) (basis j)

-- a basis of such columns for few demands and bounds that aren't negative, and what is kept of it
pub record IsHeld (links demands : ℕ) (bound : ℕ → ℤ) (basis : ℕ → ColumnOf RouteColumn) (place role : ℕ → ℕ) (b : Keyed) : Type 0 where
  pub keyed : IsKeyed links demands bound basis place role b
  pub few : demands ≤ 2048
  pub positive : (r : ℕ) → r < links + demands → pos 0 ≤ℤ bound r
  pub names : (j : ℕ) → j < links + demands → IsNameOf links demands (column_name b.names j)

-- what is left of a column when the keys are taken away, times each row
abbrev pub HaveProducts : ℕ → List ℤ → (ℕ → ℕ → ℤ) → (ℕ → ℤ) → Type 0
HaveProducts links products rows left = (i : ℕ) → i < links → num products i ≡ dot links (rows i) left

-- a column of this name, whose products with the rows the basis holds, enters for that of role r, which is first by the ratio test
pub record IsEntering (links demands : ℕ) (bound : ℕ → ℤ) (basis : ℕ → ColumnOf RouteColumn) (place role : ℕ → ℕ) (b : Keyed) (name : RouteColumn)
    (c : ColumnOf RouteColumn) (r : ℕ) : Type 0 where
  pub held : IsHeld links demands bound basis place role b
  pub named : IsColumnNamed links demands name c
  pub sound : IsNameOf links demands name
  pub products : HaveProducts links b.products (nums_at b.rows) (left_column links demands basis place c.entry)
  pub inside : r < links + demands
  pub of_keys : ℕ → ℕ → ℤ
  pub of_den : ℕ → ℤ
  pub key_rows : AreKeyRows links demands basis place of_keys of_den
  pub pick : IsPick (links + demands) bound (λ j. role_nums links demands basis place (nums_at b.rows) (den_at b.rows) of_keys of_den (role j))
      (full_prices links demands basis place (num b.prices.nums) b.prices.den) b.prices.den c (place r)

-- it does so in some basis
pub record HasEntering (links demands : ℕ) (b : Keyed) (name : RouteColumn) (r : ℕ) : Type 0 where
  pub bound : ℕ → ℤ
  pub basis : ℕ → ColumnOf RouteColumn
  pub place : ℕ → ℕ
  pub role : ℕ → ℕ
  pub column : ColumnOf RouteColumn
  pub entering : IsEntering links demands bound basis place role b name column r

-- what the column costs at the prices, less its gain
abbrev pub IsPriced : ℕ → ℕ → (ℕ → ColumnOf RouteColumn) → (ℕ → ℕ) → Keyed → ColumnOf RouteColumn → ℤ → Type 0
IsPriced links demands basis place b c x = x ≡ cost links demands basis place (num b.prices.nums) b.prices.den c

-- a column of this cost enters in some basis
pub record HasPriced (links demands : ℕ) (b : Keyed) (name : RouteColumn) (x : ℤ) (r : ℕ) : Type 0 where
  pub bound : ℕ → ℤ
  pub basis : ℕ → ColumnOf RouteColumn
  pub place : ℕ → ℕ
  pub role : ℕ → ℕ
  pub column : ColumnOf RouteColumn
  pub entering : IsEntering links demands bound basis place role b name column r
  pub priced : IsPriced links demands basis place b column x

-- no row is one of demand d
abbrev pub IsAlone : List ℕ → ℕ → ℕ → Type 0
IsAlone owners links d = (i : ℕ) → i < links → get_or owners i 0 ≡ d → ⊥

-- a row of the basis of these names that is too wide
pub record IsWideNext (links demands : ℕ) (basis : ℕ → ColumnOf RouteColumn) (names : List RouteColumn) (i : ℕ) : Type 0 where
  pub named : AreColumnNames links demands basis names
  pub wide : HoldsRow (links + demands) basis i
