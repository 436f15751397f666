-- what comes of a best basis with keys
use Rattle.std.specs.Prelude.{ℕ, ℤ, List, length, map, pos, Result, Ok, Err, ◌≡◌, ◌≢◌, ◌<◌, ◌≤◌, ◌+◌, ◌-◌, ◌*◌, ◌/◌, ◌^◌, ◌++◌, ◌≤ℤ◌, get_or, cond, ltb, unsigned_abs}
use Rattle.checked_fraction.{specs.Terms.num, specs.declared.row.Row.Row}
use Rattle.plan_terms.specs.Terms.{RouteColumn, WideKind, Number, Row as RowOf, Product, Sum, Common, Value, Length}
use Rattle.simplex_core.{specs.Terms.{den_at, DivideAll, IsDenominator, HaveNoDenominator}, specs.declared.optimum.Optimum.Optimum, specs.declared.solver.SimplexFault.SimplexFault, specs.declared.solver.SimplexFault.TheVariants.{Wide, NoMemory}}
use Rattle.key_rows.{specs.Terms.{amounts, left_over_rows}, specs.declared.keyed.Keyed.Keyed}
use Rattle.key_paths.specs.declared.finish.Ended.{Ended}

-- the denominator of row i
abbrev pub row_den : List Row → ℕ → ℕ
row_den rows i = unsigned_abs (den_at rows i)

-- how often the denominator of each row goes into a common one
abbrev pub shares : List Row → ℕ → List ℤ
shares rows all = map (λ row. pos (all / unsigned_abs row.den)) rows

module _ (b : Keyed) (all : ℕ) where
  -- the value of row i over all
  abbrev pub row_over : ℕ → ℤ
  row_over i = pos (get_or b.values i 0 * (all / row_den b.rows i))

  -- what the first n rows leave of demand d's bound, over all
  abbrev pub key_over : ℕ → ℕ → ℤ
  key_over d n = left_over_rows b.owners (shares b.rows all) d (pos all) (num b.bounds (length b.rows + d)) (amounts b.values) n

  -- the value of the column in a role, over all
  abbrev pub role_over : ℕ → ℤ
  role_over r = cond (ltb r (length b.rows)) (row_over r) (key_over (r - length b.rows) (length b.rows))

  -- the values over all fit into 128 bits, and no demand's rows take more than its bound
  pub record FitOver : Type 0 where
    pub rows : (i : ℕ) → i < length b.rows → get_or b.values i 0 * (all / row_den b.rows i) < 2 ^ 124
    pub bounds : (d : ℕ) → d < length b.duals → pos 0 ≤ℤ num b.bounds (length b.rows + d)
    pub keys : (d n : ℕ) → d < length b.duals → n ≤ length b.rows → pos 0 ≤ℤ key_over d n

-- they do over each narrow common denominator of the rows
abbrev pub HasFittingValues : Keyed → Type 0
HasFittingValues b = (all : ℕ) → 0 < all → all < 2 ^ 62 → DivideAll (row_den b.rows) (length b.rows) all → FitOver b all

-- no two roles have one place
abbrev pub AreApartPlaces : List ℕ → Type 0
AreApartPlaces places = (r s : ℕ) → r < s → s < length places → get_or places r 0 ≢ get_or places s 0

-- the value of each role over the denominator is at the role's place
abbrev pub AreValuesOver : Keyed → ℕ → List ℕ → Type 0
AreValuesOver b all values = (r : ℕ) → r < length b.places → pos (get_or values (get_or b.places r 0) 0) ≡ role_over b all r

-- the values of a basis over their common denominator, with its names, and with the prices of the links and then those of the demands
pub record IsEnded (b : Keyed) (best : Optimum RouteColumn) : Type 0 where
  pub names : best.basis ≡ b.names
  pub den : IsDenominator (row_den b.rows) (length b.rows) best.den
  pub count : length best.values ≡ length b.places
  pub values : AreValuesOver b best.den best.values
  pub duals : best.duals.nums ≡ b.prices.nums ++ b.duals
  pub duals_den : best.duals.den ≡ b.prices.den

-- an end beside the names of a basis makes its optimum
abbrev pub IsEndOf : Keyed → Ended → Type 0
IsEndOf b end = (names : List RouteColumn) → names ≡ b.names → IsEnded b (record { basis = names; den = end.den; values = end.values; duals = end.duals })

-- the rows have no common denominator that is narrow
abbrev pub IsWideEnd : Keyed → WideKind RouteColumn → Type 0
IsWideEnd b Common = HaveNoDenominator (row_den b.rows) (length b.rows)
IsWideEnd b (RowOf i) = ⊥
IsWideEnd b (Product i name) = ⊥
IsWideEnd b (Sum i) = ⊥
IsWideEnd b (Number name) = ⊥
IsWideEnd b Value = ⊥
IsWideEnd b (Length link) = ⊥

-- how a best basis ends
abbrev pub IsKeyedEnd : Keyed → Result (Optimum RouteColumn) (SimplexFault RouteColumn) → Type 0
IsKeyedEnd b (Ok best) = IsEnded b best
IsKeyedEnd b (Err (Wide names kind)) = (names ≡ b.names) × IsWideEnd b kind
IsKeyedEnd b (Err NoMemory) = Unit {0}
