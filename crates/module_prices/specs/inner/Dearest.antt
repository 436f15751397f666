-- which module costs most per capacity among the cheapest ones of links
use Rattle.std.specs.Prelude.{◌≡◌, ℕ, ◌*◌, ◌≤◌, ◌<◌, ◌⊎◌, List, [], All, Any, Some, length, slice_get, slice_index}
use Rattle.plan_terms.specs.Terms.{IsModule, Link, Module, HasLeastUnitCost, IsPriceLength}

-- a module costs at most as much per capacity as another
abbrev pub IsNoDearer : Module → Module → Type 0
IsNoDearer m other = m.cost * other.capacity ≤ other.cost * m.capacity

-- no link's cheapest module is dearer
abbrev pub IsGreatest : List Link → Module → Type 0
IsGreatest links m = (e : ℕ) (l : Link) (o : Module) → slice_get links e ≡ Some l → HasLeastUnitCost l.modules o → IsNoDearer o m

-- the most expensive of another module and the cheapest of a link, which wins a tie
pub record IsDearer (modules : List Module) (other m : Module) : Type 0 where
  pub sound : IsModule m
  pub kept : IsNoDearer other m
  pub here : (o : Module) → HasLeastUnitCost modules o → IsNoDearer o m
  pub is : ((m ≡ other) × ((modules ≡ []) ⊎ (0 < other.cost))) ⊎ HasLeastUnitCost modules m

-- the most expensive of the cheapest modules of the first n links, or a free one where these have none
pub record IsDearestSoFar (links : List Link) (n : ℕ) (m : Module) : Type 0 where
  pub sound : IsModule m
  pub before : (e : ℕ) (l : Link) (o : Module) → e < n → slice_get links e ≡ Some l → HasLeastUnitCost l.modules o → IsNoDearer o m
  pub is : ((m.cost ≡ 0) × ((e : ℕ) (l : Link) → e < n → slice_get links e ≡ Some l → l.modules ≡ [])) ⊎ Any (λ l. HasLeastUnitCost l.modules m) links

-- the price lengths of links under the most expensive module, each at most 16
pub record ArePriced (links : List Link) (dearest : Module) (lengths : List ℕ) : Type 0 where
  pub count : length lengths ≡ length links
  pub each : (e : ℕ) (l : Link) → slice_get links e ≡ Some l → IsPriceLength dearest l.modules (slice_index lengths e)
  pub small : All (λ n. n ≤ 16) lengths
