-- which roles the ratio test tries
use Rattle.std.specs.Prelude.{ℕ, ℤ, List, Option, Some, None, length, pos, ◌≡◌, ◌≢◌, ◌<◌, ◌+◌, ◌⊎◌}
use Rattle.checked_fraction.specs.Terms.{num}
use Rattle.net_core.specs.declared.columns.RouteColumn.{RouteColumn}
use Rattle.key_rows.{specs.KeyRows.IsOwn, specs.Names.demand_in, specs.declared.keyed.Keyed.Keyed, specs.declared.order.Candidate.Candidate}

-- the role of a candidate
abbrev pub role_in : Option Candidate → Option ℕ
role_in None = None
role_in (Some x) = Some x.role

-- one of the first n rows, of those with a product, is one of demand d
abbrev pub IsSeen : List ℕ → List ℤ → ℕ → ℕ → Type 0
IsSeen owners products n d = (j : ℕ) × (j < n) × IsOwn owners d j × (num products j ≢ pos 0)

-- demand d is that of the column, or one of the first n rows with a product
abbrev pub IsTouched : Keyed → RouteColumn → ℕ → ℕ → Type 0
IsTouched b name n d = (demand_in name ≡ Some d) ⊎ IsSeen b.owners b.products n d

-- the rows of links, and the keys of the demands that are touched
abbrev pub IsTried : Keyed → RouteColumn → ℕ → ℕ → Type 0
IsTried b name n r = (r < length b.rows) ⊎ ((d : ℕ) × (r ≡ length b.rows + d) × IsTouched b name n d)

-- row i touches no demand that the rows before it don't
abbrev pub TouchesNoMore : Keyed → RouteColumn → ℕ → Type 0
TouchesNoMore b name i = (d : ℕ) → d < length b.duals → IsTouched b name (i + 1) d → IsTouched b name i d
