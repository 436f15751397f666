-- the program that routes the demands of a state: the greatest flow over all paths (maximum multicommodity flow, in path columns)
use Rattle.std.specs.Prelude.{◌≡◌, ℕ, ℤ, ◌+◌, ◌-◌, ◌*◌, ◌<◌, List, Some, pos, cond, nat_lt, length, map, slice_get, slice_index}
use Rattle.plan_terms.specs.Terms.{RouteColumn, LinkSlack, DemandSlack, Carry, Demand, LinkId, Caps, Graph, Joins, names_link, sum_below, IsPath}
use Rattle.simplex_law.specs.Terms.{unit_vector, ColumnOf, IsProgramColumn}

-- f for the first n rows, and g for those after them
abbrev pub beside : {X : Type 0} → ℕ → (ℕ → X) → (ℕ → X) → ℕ → X
beside n f g k = cond (nat_lt k n) (f k) (g (k - n))

-- what demand k needs in the unit of the capacities
abbrev pub scaled_need : List Demand → Caps → ℕ → ℕ
scaled_need demands caps k = slice_index (map (λ d. d.need) demands) k * caps.scale

-- what all demands need together
abbrev pub total_scaled_need : List Demand → Caps → ℕ
total_scaled_need demands caps = sum_below (length demands) (scaled_need demands caps)

-- the entries of a path of demand k: 1 for each of its links, and 1 for the demand
abbrev pub path_entry : Graph → ℕ → List LinkId → ℕ → ℤ
path_entry g k path = beside (length g.links) (λ e. cond (names_link e path) (pos 1) (pos 0)) (unit_vector k)

-- a row for each link, and then one for each demand
abbrev pub route_rows : Graph → List Demand → ℕ
route_rows g demands = length g.links + length demands

-- the bounds: what each link has, and what each demand needs
abbrev pub route_bound : Graph → List Demand → Caps → ℕ → ℤ
route_bound g demands caps = beside (length g.links) (λ e. pos (slice_index caps.nums e)) (λ k. pos (scaled_need demands caps k))

-- the slacks: what each link has left, and what isn't carried of each demand
abbrev pub route_slack : Graph → ℕ → RouteColumn
route_slack g = beside (length g.links) (λ e. LinkSlack (record { 0 = e })) (λ k. DemandSlack k)

-- the column of a demand that has a need, along a path between its ends, which gains 1
pub record IsCarrying (g : Graph) (demands : List Demand) (c : ColumnOf RouteColumn) : Type 0 where
  pub place : ℕ
  pub demand : Demand
  pub at : slice_get demands place ≡ Some demand
  pub needed : 0 < demand.need
  pub path : List LinkId
  pub leads : IsPath (Joins g) demand.from.0 demand.to.0 path
  pub named : c.name ≡ Carry place path
  pub gain : c.gain ≡ pos 1
  pub entry : (k : ℕ) → k < route_rows g demands → c.entry k ≡ path_entry g place path k

-- the columns: each needed demand along each of its paths, and the slacks
abbrev pub IsRouteColumn : Graph → List Demand → ColumnOf RouteColumn → Type 0
IsRouteColumn g demands = IsProgramColumn (route_rows g demands) (route_slack g) (IsCarrying g demands)
