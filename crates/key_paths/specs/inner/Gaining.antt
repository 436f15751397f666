-- which columns of a routing program gain, by their names
use Rattle.std.specs.Prelude.{ℕ, ℤ, List, [], ◌∷◌, ◌++◌, All, Some, length, pos, slice_get, slice_index, ◌≡◌, ◌<◌, ◌^◌, ◌+ℤ◌, ◌-ℤ◌, ◌<ℤ◌, ◌≤ℤ◌, ◌⊎◌}
use Rattle.checked_fraction.specs.Terms.{num}
use Rattle.plan_terms.specs.Terms.{RouteColumn, LinkSlack, DemandSlack, Carry, Demand, LinkId, Graph, Joins, IsPath}
use Rattle.simplex_law.specs.Terms.{dot}
use Rattle.key_rows.{specs.declared.keyed.Keyed.Keyed, specs.Terms.path_uses}
use Rattle.key_paths.specs.declared.carrier.Carrier.{Carrier}

-- the path joins the ends of demand k, which has a need
pub record IsCarried (g : Graph) (demands : List Demand) (k : ℕ) (path : List LinkId) : Type 0 where
  pub demand : Demand
  pub at : slice_get demands k ≡ Some demand
  pub needed : 0 < demand.need
  pub leads : IsPath (Joins g) demand.from.0 demand.to.0 path

-- the program that routes the demands has a column of this name
abbrev pub IsRouteName : Graph → List Demand → RouteColumn → Type 0
IsRouteName g demands (LinkSlack link) = link.0 < length g.links
IsRouteName g demands (DemandSlack demand) = demand < length demands
IsRouteName g demands (Carry demand path) = IsCarried g demands demand path

-- what a column costs at the prices of the links and of the demands, less what it gains, over their denominator
abbrev pub cost_at : Keyed → RouteColumn → ℤ
cost_at b (LinkSlack link) = num b.prices.nums link.0
cost_at b (DemandSlack demand) = num b.duals demand
cost_at b (Carry demand path) = (dot (length b.prices.nums) (num b.prices.nums) (path_uses path) +ℤ num b.duals demand) -ℤ b.prices.den

-- a column of the program that gains
pub record IsGaining (g : Graph) (demands : List Demand) (b : Keyed) (name : RouteColumn) : Type 0 where
  pub is_name : IsRouteName g demands name
  pub gains : cost_at b name <ℤ pos 0

-- no column of the program gains
abbrev pub NoneGains : Graph → List Demand → Keyed → Type 0
NoneGains g demands b = (name : RouteColumn) → IsRouteName g demands name → pos 0 ≤ℤ cost_at b name

-- a demand along one of its paths
abbrev pub IsCarrier : Graph → List Demand → Carrier → Type 0
IsCarrier g demands c = IsCarried g demands c.demand c.path

-- no path of demand k gains
abbrev pub NoneIsCheap : Graph → Keyed → ℕ → Demand → Type 0
NoneIsCheap g b k d = (path : List LinkId) → 0 < d.need → IsPath (Joins g) d.from.0 d.to.0 path → pos 0 ≤ℤ cost_at b (Carry k path)

-- a path of demand k that gains has been added to the others
pub record Adds (g : Graph) (b : Keyed) (k : ℕ) (d : Demand) (old new : List Carrier) : Type 0 where
  pub path : List LinkId
  pub is : new ≡ old ++ record { demand = k; path = path } ∷ []
  pub needed : 0 < d.need
  pub leads : IsPath (Joins g) d.from.0 d.to.0 path
  pub cheap : cost_at b (Carry k path) <ℤ pos 0

-- a path of demand k that gains, if there is one, has been added to the others
abbrev pub Offers : Graph → Keyed → ℕ → Demand → List Carrier → List Carrier → Type 0
Offers g b k d old new = Adds g b k d old new ⊎ ((new ≡ old) × NoneIsCheap g b k d)

-- paths that gain of some of the first n demands, of one at least where one has any
pub record AreOffers (g : Graph) (demands : List Demand) (b : Keyed) (n : ℕ) (found : List Carrier) : Type 0 where
  pub each : All (IsCarrier g demands) found
  pub cheap : All (λ c. cost_at b (Carry c.demand c.path) <ℤ pos 0) found
  pub none : length found ≡ 0 → (k : ℕ) (d : Demand) → k < n → slice_get demands k ≡ Some d → NoneIsCheap g b k d

-- the prices are those of the links, none of which is negative
pub record AreLinkCosts (b : Keyed) (prices : List ℕ) : Type 0 where
  pub count : length prices ≡ length b.prices.nums
  pub same : (e : ℕ) → e < length prices → num b.prices.nums e ≡ pos (slice_index prices e)
  pub low : All (λ p. p < 2 ^ 62) prices
