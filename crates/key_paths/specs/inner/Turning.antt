-- what the steps of a turn change of a basis with keys
use Rattle.std.{specs.Prelude.{ℕ, ℤ, List, length, Some, ◌≡◌, ◌≢◌, ◌<◌, ◌+◌, ◌+ℤ◌, ◌-ℤ◌, ◌*ℤ◌, get_or, slice_set}, specs.List.slice_get}
use Rattle.checked_fraction.{specs.Terms.{num, IsReduced, combined, IsTooWide}, specs.declared.row.Row.Row, specs.declared.wide.WideNumber.WideNumber}
use Rattle.plan_terms.specs.Terms.{RouteColumn}
use Rattle.simplex_core.specs.Terms.{nums_at, AreTurned, IsWideRow}
use Rattle.key_law.specs.Terms.{swap}
use Rattle.key_rows.{specs.Terms.{IsKeyRow, path_uses, links_in, key_name, owner_in}, specs.declared.keyed.Keyed.Keyed}
use Rattle.key_paths.{specs.declared.turn_rows.WideTurn.WideTurn, specs.declared.turn_rows.WideTurn.TheVariants.{Prices, Row as RowOf}}

-- what the key of demand d takes of link k at its bound
abbrev pub key_takes : Keyed → ℕ → ℕ → ℤ
key_takes b d k = num b.bounds (length b.rows + d) *ℤ path_uses (links_in (key_name b.names b.places (length b.rows) d)) k

-- a basis with another rest
abbrev pub with_rest : Keyed → List ℤ → Keyed
with_rest b rest = record {
  names = b.names;
  places = b.places;
  owners = b.owners;
  rows = b.rows;
  prices = b.prices;
  duals = b.duals;
  bounds = b.bounds;
  rest = rest;
  values = b.values;
  products = b.products;
}

-- a basis with other values and products
abbrev pub with_numbers : Keyed → List ℕ → List ℤ → Keyed
with_numbers b values products = record {
  names = b.names;
  places = b.places;
  owners = b.owners;
  rows = b.rows;
  prices = b.prices;
  duals = b.duals;
  bounds = b.bounds;
  rest = b.rest;
  values = values;
  products = products;
}

-- the places of two roles are swapped
abbrev pub AreSwapped : List ℕ → List ℕ → ℕ → ℕ → Type 0
AreSwapped old new a b = (r : ℕ) → r < length old → get_or new r 0 ≡ get_or old (swap a b r) 0

-- row i, whose column is one of demand d, and the demand's key have changed roles
pub record IsRoleSwap (old : Keyed) (i d : ℕ) (new : Keyed) : Type 0 where
  pub names : new.names ≡ old.names
  pub count : length new.places ≡ length old.places
  pub places : AreSwapped old.places new.places i (length old.rows + d)
  pub owners : new.owners ≡ old.owners
  pub rows : length new.rows ≡ length old.rows
  pub row : Row
  pub at : slice_get new.rows i ≡ Some row
  pub size : length row.nums ≡ length old.rows
  pub key_row : IsKeyRow old d row
  pub others : (j : ℕ) → j ≢ i → slice_get new.rows j ≡ slice_get old.rows j
  pub prices : new.prices ≡ old.prices
  pub duals : new.duals ≡ old.duals
  pub bounds : new.bounds ≡ old.bounds
  pub values : new.values ≡ old.values
  pub products : new.products ≡ old.products
  pub rest_count : length new.rest ≡ length old.rest
  pub rest : (k : ℕ) → num new.rest k ≡ (num old.rest k +ℤ key_takes old d k) -ℤ key_takes new d k

-- the column of this name and cost has the place of that of row i: names, owners, rows and prices are those of the next basis
pub record AreRowsTurned (old : Keyed) (name : RouteColumn) (cost : ℤ) (i : ℕ) (new : Keyed) : Type 0 where
  pub names : new.names ≡ slice_set old.names (get_or old.places i 0) name
  pub places : new.places ≡ old.places
  pub owners : new.owners ≡ slice_set old.owners i (owner_in (length old.duals) name)
  pub rows : AreTurned (length old.rows) old.rows new.rows old.products i
  pub length_prices : length new.prices.nums ≡ length old.rows
  pub prices : IsReduced (length old.rows) (combined (num old.prices.nums) cost (nums_at old.rows i) (num old.products i))
      (old.prices.den *ℤ num old.products i) (num new.prices.nums) new.prices.den
  pub duals : new.duals ≡ old.duals
  pub bounds : new.bounds ≡ old.bounds
  pub rest : new.rest ≡ old.rest
  pub values : new.values ≡ old.values
  pub products : new.products ≡ old.products

-- the prices of the next basis are too wide, or a row of it
abbrev pub IsWideTurn : Keyed → ℤ → ℕ → WideTurn → Type 0
IsWideTurn old cost i Prices = (wide : WideNumber)
    × IsTooWide (length old.rows) (combined (num old.prices.nums) cost (nums_at old.rows i) (num old.products i)) (old.prices.den *ℤ num old.products i) wide
IsWideTurn old cost i (RowOf k) = IsWideRow (length old.rows) old.rows old.products i k
