-- demands that belong to a network
use Rattle.std.specs.Prelude.{◌≢◌, ℕ, ◌≤◌, ◌<◌, ◌^◌, List, length, All, AllPairs, sum_by}
use Rattle.net_core.{specs.declared.demand.Demand.Demand, specs.Limits.{most_demands, need_power, total_power}}

-- all needs together
abbrev pub total_need : List Demand → ℕ
total_need demands = sum_by (λ d. d.need) demands

-- a demand joins two different ones of n nodes, and its need is below 2^40 units
pub record IsDemand (n : ℕ) (d : Demand) : Type 0 where
  pub from_known : d.from.0 < n
  pub to_known : d.to.0 < n
  pub different : d.from.0 ≢ d.to.0
  pub need : d.need < 2 ^ need_power

-- at most 2,048 demands, no name twice, and a total need below 2^44 units
pub record AreDemands (n : ℕ) (demands : List Demand) : Type 0 where
  pub few : length demands ≤ most_demands
  pub different : AllPairs (λ x y. x.name ≢ y.name) demands
  pub each : All (IsDemand n) demands
  pub total : total_need demands < 2 ^ total_power
