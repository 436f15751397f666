-- unit pairs, and price lengths: what a unit of capacity costs on each link, in sixteenths of the greatest such cost
use Rattle.std.specs.Prelude.{◌≡◌, ◌≢◌, ℕ, ◌*◌, ◌/◌, ◌≤◌, ◌<◌, ◌⊎◌, List, [], Some, All, Any, Contains, length, slice_get, slice_index}
use Rattle.net_core.{specs.declared.network.Module.Module, specs.declared.network.Link.Link}
use Rattle.plan_terms.specs.Bounds.{IsLowest}

-- a module of least cost per capacity
pub record HasLeastUnitCost (modules : List Module) (m : Module) : Type 0 where
  pub one : Contains modules m
  pub least : All (λ o. m.cost * o.capacity ≤ o.cost * m.capacity) modules

-- The unit pair: capacity and cost of a module of least cost per capacity, without common divisor. All such modules have the same one.
pub record IsUnitPair (modules : List Module) (capacity cost : ℕ) : Type 0 where
  pub cheapest : Module
  pub least : HasLeastUnitCost modules cheapest
  pub lowest : IsLowest cheapest.cost cheapest.capacity cost capacity

-- the cheapest module of some link, and no link's cheapest module costs more per capacity
pub record HasGreatestUnitCost (links : List Link) (m : Module) : Type 0 where
  pub some : Any (λ l. HasLeastUnitCost l.modules m) links
  pub greatest : (e : ℕ) (l : Link) (o : Module) → slice_get links e ≡ Some l → HasLeastUnitCost l.modules o → o.cost * m.capacity ≤ m.cost * o.capacity

-- the cost per capacity of m, in sixteenths of that of the most expensive, rounded down; 0 where even the most expensive costs nothing
abbrev pub IsSixteenths : Module → Module → ℕ → Type 0
IsSixteenths dearest m n =
    ((dearest.cost ≡ 0) × (n ≡ 0))
    ⊎ ((0 < dearest.cost) × (n ≡ 16 * (m.cost * dearest.capacity) / (m.capacity * dearest.cost)))

-- the price length of a link's modules: that of a cheapest one; 0 where there is none
abbrev pub IsPriceLength : Module → List Module → ℕ → Type 0
IsPriceLength dearest modules n =
    ((modules ≡ []) × (n ≡ 0)) ⊎ ((m : Module) × HasLeastUnitCost modules m × IsSixteenths dearest m n)

-- one price length for each link
pub record ArePriceLengths (links : List Link) (lengths : List ℕ) : Type 0 where
  pub count : length lengths ≡ length links
  pub dearest : Module
  pub is_dearest : Any (λ l. l.modules ≢ []) links → HasGreatestUnitCost links dearest
  pub each : (e : ℕ) (l : Link) → slice_get links e ≡ Some l → IsPriceLength dearest l.modules (slice_index lengths e)
