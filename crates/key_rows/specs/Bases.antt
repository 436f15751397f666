-- a basis by its keys, as the code holds it
use Rattle.std.specs.Prelude.{ℕ, ℤ, length, ◌≡◌, ◌<◌, ◌+◌, ◌^◌, get_or}
use Rattle.checked_fraction.specs.Terms.{num, IsNarrow}
use Rattle.net_core.specs.declared.columns.RouteColumn.{RouteColumn}
use Rattle.simplex_law.specs.Terms.{dot, ColumnOf}
use Rattle.simplex_core.specs.Terms.{nums_at, den_at, IsRectangle}
use Rattle.key_law.specs.Terms.{IsKept, left_column, full_prices}
use Rattle.key_rows.{specs.KeyRows.amounts, specs.Names.{gain_in, uses, own_entry, owner_in, column_name, IsNameWithin}, specs.declared.keyed.Keyed.Keyed, specs.declared.keyed.Room.Room}

-- each list has as many items as there are links, demands, or rows of both; what they hold names links and places that there are
pub record IsShapedBasis (links demands : ℕ) (b : Keyed) : Type 0 where
  pub names : length b.names ≡ links + demands
  pub places : length b.places ≡ links + demands
  pub owners : length b.owners ≡ links
  pub rows : length b.rows ≡ links
  pub rectangle : IsRectangle links b.rows
  pub prices : length b.prices.nums ≡ links
  pub duals : length b.duals ≡ demands
  pub bounds : length b.bounds ≡ links + demands
  pub rest : length b.rest ≡ links
  pub values : length b.values ≡ links
  pub products : length b.products ≡ links
  pub narrow_bounds : (k : ℕ) → IsNarrow (num b.bounds k)
  pub narrow_duals : (d : ℕ) → IsNarrow (num b.duals d)
  pub inside : (r : ℕ) → r < links + demands → get_or b.places r 0 < links + demands
  pub within : (j : ℕ) → j < links + demands → IsNameWithin links (column_name b.names j)
  pub short : links + demands < 2 ^ 32

-- a column of this name, in a program of rows of links and then of demands
pub record IsColumnNamed (links demands : ℕ) (name : RouteColumn) (c : ColumnOf RouteColumn) : Type 0 where
  pub named : c.name ≡ name
  pub gain : c.gain ≡ gain_in name
  pub link : (k : ℕ) → k < links → c.entry k ≡ uses name k
  pub demand : (d : ℕ) → d < demands → c.entry (links + d) ≡ own_entry name d

-- room for as many rows as there are links
pub record IsRoom (links : ℕ) (room : Room) : Type 0 where
  pub weights : length room.weights ≡ links
  pub raw : length room.raw ≡ links
  pub spare : length room.spare.nums ≡ links
  pub other : length room.other.nums ≡ links
  pub narrow : (i : ℕ) → IsNarrow (num room.weights i)

-- the columns, and what is kept of their basis
pub record IsKeyed (links demands : ℕ) (bound : ℕ → ℤ) (basis : ℕ → ColumnOf RouteColumn) (place role : ℕ → ℕ) (b : Keyed) : Type 0 where
  pub shaped : IsShapedBasis links demands b
  pub named : (j : ℕ) → j < links + demands → IsColumnNamed links demands (column_name b.names j) (basis j)
  pub placed : (r : ℕ) → r < links + demands → get_or b.places r 0 ≡ place r
  pub owned : (i : ℕ) → i < links → get_or b.owners i 0 ≡ owner_in demands (column_name b.names (place i))
  pub kept : IsKept links demands bound basis place role (nums_at b.rows) (den_at b.rows) (num b.prices.nums) b.prices.den
  pub bounds : (r : ℕ) → r < links + demands → num b.bounds r ≡ bound r
  pub rest : (k : ℕ) → k < links → num b.rest k ≡ left_column links demands basis place bound k
  pub values : (i : ℕ) → i < links → amounts b.values i ≡ dot links (nums_at b.rows i) (left_column links demands basis place bound)
  pub duals : (d : ℕ) → d < demands → num b.duals d ≡ full_prices links demands basis place (num b.prices.nums) b.prices.den (links + d)
