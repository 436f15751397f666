-- the columns of a routing program by their names
use Rattle.std.{specs.Prelude.{ℕ, ℤ, List, [], length, Option, Some, None, pos, get_or, ◌<◌, ◌≤◌, ◌+◌, ◌-ℤ◌, ◌*ℤ◌}, specs.List.AllByRecursion}
use Rattle.net_core.{specs.declared.columns.RouteColumn.RouteColumn, specs.declared.columns.RouteColumn.TheVariants.{LinkSlack, DemandSlack, Carry}, specs.declared.ids.LinkId.LinkId}
use Rattle.simplex_law.specs.Terms.{dot, unit_vector, entry_at}

-- how often a path uses link k
abbrev pub path_uses : List LinkId → ℕ → ℤ
path_uses = entry_at (λ l. l.0) (λ l. pos 1)

-- the links that a column runs over
abbrev pub links_in : RouteColumn → List LinkId
links_in (LinkSlack link) = []
links_in (DemandSlack demand) = []
links_in (Carry demand path) = path

-- the demand of a column
abbrev pub demand_in : RouteColumn → Option ℕ
demand_in (LinkSlack link) = None
demand_in (DemandSlack demand) = Some demand
demand_in (Carry demand path) = Some demand

-- what a column gains
abbrev pub gain_in : RouteColumn → ℤ
gain_in (LinkSlack link) = pos 0
gain_in (DemandSlack demand) = pos 0
gain_in (Carry demand path) = pos 1

-- what a column takes of link k
abbrev pub uses : RouteColumn → ℕ → ℤ
uses (LinkSlack link) = unit_vector link.0
uses (DemandSlack demand) = path_uses []
uses (Carry demand path) = path_uses path

-- what is left of a column when a path is taken away, the key of its demand
abbrev pub left_uses : RouteColumn → List LinkId → ℕ → ℤ
left_uses name key k = uses name k -ℤ path_uses key k

-- links below n, few enough to be summed
abbrev pub IsShortPath : ℕ → List LinkId → Type 0
IsShortPath n path = AllByRecursion (λ l. l.0 < n) path × (length path ≤ 256)

-- a name whose links are so
abbrev pub IsNameWithin : ℕ → RouteColumn → Type 0
IsNameWithin n (LinkSlack link) = link.0 < n
IsNameWithin n (DemandSlack demand) = Unit {0}
IsNameWithin n (Carry demand path) = IsShortPath n path

-- name j of a list
abbrev pub column_name : List RouteColumn → ℕ → RouteColumn
column_name names j = get_or names j (DemandSlack 0)

-- the name of the key of demand d, by the places of all roles: those of the links, and then those of the demands' keys
abbrev pub key_name : List RouteColumn → List ℕ → ℕ → ℕ → RouteColumn
key_name names places links d = column_name names (get_or places (links + d) 0)

-- its links, and none where there is no demand
abbrev pub key_links : List RouteColumn → List ℕ → ℕ → Option ℕ → List LinkId
key_links names places links None = []
key_links names places links (Some d) = links_in (key_name names places links d)

-- the role of a demand's key, and its place, are in the lists
abbrev pub HasKey : List RouteColumn → List ℕ → ℕ → ℕ → Type 0
HasKey names places links d = (links + d < length places) × (get_or places (links + d) 0 < length names)

-- the entry of a column in the row of demand d
abbrev pub own_entry : RouteColumn → ℕ → ℤ
own_entry (LinkSlack link) d = pos 0
own_entry (DemandSlack demand) d = unit_vector demand d
own_entry (Carry demand path) d = unit_vector demand d

-- the demand of a column as the owner of a row, of all demands: their count means none
abbrev pub owner_in : ℕ → RouteColumn → ℕ
owner_in demands (LinkSlack link) = demands
owner_in demands (DemandSlack demand) = demand
owner_in demands (Carry demand path) = demand

-- the price that makes a key's cost 0: what it gains over den, less what its links cost
abbrev pub key_dual : ℕ → (ℕ → ℤ) → ℤ → RouteColumn → ℤ
key_dual links prices den name = (den *ℤ gain_in name) -ℤ dot links prices (path_uses (links_in name))
