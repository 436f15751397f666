-- the flows of a basis that is given by its names and values
use Rattle.std.specs.Prelude.{◌≡◌, ℕ, ◌≤◌, ◌<◌, ◌⊎◌, List, All, Option, None, Some, false, get_or, length, slice_get}
use Rattle.plan_terms.specs.Terms.{RouteColumn, DemandSlack, Carry, Flow}
use Rattle.simplex_law.specs.Terms.{ColumnOf, AreNames}
use Rattle.route_law.specs.Terms.{is_of_demand, runs_over, AreFlowsOf}

-- the slack of a demand has a positive value
pub record LeavesNeed (names : List RouteColumn) (values : List ℕ) : Type 0 where
  pub place : ℕ
  pub demand : ℕ
  pub at : slice_get names place ≡ Some (DemandSlack demand)
  pub positive : 0 < get_or values place 0

-- the flow of a column of this value, if it carries something
abbrev pub IsFlowOfColumn : RouteColumn → ℕ → Option Flow → Type 0
IsFlowOfColumn name num None = (num ≡ 0) ⊎ (((k : ℕ) → is_of_demand name k ≡ false) × ((e : ℕ) → runs_over name e ≡ false))
IsFlowOfColumn name num (Some f) = (0 < num) × (name ≡ Carry f.demand f.path) × (f.num ≡ num)

-- the flow of one of the columns
pub record IsBasisFlow (names : List RouteColumn) (values : List ℕ) (f : Flow) : Type 0 where
  pub place : ℕ
  pub at : slice_get names place ≡ Some (Carry f.demand f.path)
  pub positive : 0 < f.num
  pub num : f.num ≡ get_or values place 0

-- the flows of the first n columns
pub record AreBasisFlows (names : List RouteColumn) (values : List ℕ) (n : ℕ) (flows : List Flow) : Type 0 where
  pub few : length flows ≤ n
  pub each : All (IsBasisFlow names values) flows
  pub sums : (basis : ℕ → ColumnOf RouteColumn) → AreNames (length names) basis names → AreFlowsOf n basis (λ j. get_or values j 0) flows
