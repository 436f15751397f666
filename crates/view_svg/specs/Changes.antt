-- what goes along other paths in a state than without failures
use Rattle.std.{specs.Prelude.{◌≡◌, ℕ, not, List, Some, filter, length, slice_get}, specs.List.list_any}
use Rattle.plan_terms.specs.Terms.{Flow, load}
use Rattle.plan_view.specs.Terms.{IsCeiling, goes_as}

-- the flows whose path none of the same demand takes where nothing fails
abbrev pub changed_flows : List Flow → List Flow → List Flow
changed_flows normal flows = filter (λ f. not (list_any (λ g. goes_as f g) normal)) flows

-- what flows over a denominator bring onto each of the first n links, rounded up to a unit of the network
pub record AreRoundedLoads (flows : List Flow) (den n : ℕ) (amounts : List ℕ) : Type 0 where
  pub long : length amounts ≡ n
  pub each : (e amount : ℕ) → slice_get amounts e ≡ Some amount → IsCeiling (load flows e) den amount
