-- demands whose ends a state separates
use Rattle.std.specs.Prelude.{◌≡◌, ℕ, ◌≤◌, ◌<◌, Some, length, slice_get}
use Rattle.net_core.{specs.declared.demand.Demand.Demand, specs.Terms.{Case, graph_in, Joins}}
use Rattle.plan_terms.specs.Paths.{AreApart}

-- demand k has a need, and no path of state s joins its ends
pub record Separates (p : Case) (s k : ℕ) : Type 0 where
  pub demand : Demand
  pub at : slice_get p.demands k ≡ Some demand
  pub needed : 0 < demand.need
  pub apart : AreApart (Joins (graph_in p s)) demand.from.0 demand.to.0

-- state s is the least that separates a demand, and k the least demand that it separates
pub record IsFirstSeparation (p : Case) (s k : ℕ) : Type 0 where
  pub state : s ≤ length p.listed
  pub separates : Separates p s k
  pub least_state : (t j : ℕ) → t < s → Separates p t j → ⊥
  pub least_demand : (j : ℕ) → j < k → Separates p s j → ⊥

-- no state separates a demand
abbrev pub IsSurvivable : Case → Type 0
IsSurvivable p = (s k : ℕ) → s ≤ length p.listed → Separates p s k → ⊥
