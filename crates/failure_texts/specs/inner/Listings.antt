-- failures of links that separate nothing, among the first links
use Rattle.std.specs.Prelude.{◌≡◌, ◌≢◌, ℕ, ◌<◌, ◌≤◌, List, All, AllPairs, Some, length, slice_get}
use Rattle.plan_terms.specs.Terms.{Demand, IsSurvivable, Link, Listed, Network, single_state}
use Rattle.failure_texts.specs.Fates.{alone}

-- the failure of one of the first n links, under its name, that separates nothing
pub record IsAbleState (net : Network) (demands : List Demand) (n : ℕ) (state : Listed) : Type 0 where
  pub e : ℕ
  pub link : Link
  pub below : e < n
  pub at : slice_get net.links e ≡ Some link
  pub is : state ≡ single_state e link.name
  pub able : IsSurvivable (alone net demands e link)

-- at most n such failures, of different names
pub record IsListing (net : Network) (demands : List Demand) (n : ℕ) (listed : List Listed) : Type 0 where
  pub few : length listed ≤ n
  pub each : All (IsAbleState net demands n) listed
  pub different : AllPairs (λ x y. x.name ≢ y.name) listed
