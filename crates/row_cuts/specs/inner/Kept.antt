-- what a state keeps of lengths
use Rattle.std.specs.Prelude.{ℕ, List}
use Rattle.plan_terms.specs.Terms.{Demand, Caps, Graph, Keeps}
use Rattle.metric_cut.{specs.Cuts.IsCutOf, specs.declared.cut.Cut.Cut}
use Rattle.node_sets.specs.Boundaries.{IsViolatedAt}

-- a violated cut of what the state keeps of lengths
pub record IsKeptCut (g : Graph) (demands : List Demand) (caps : Caps) (lengths : List ℕ) (cut : Cut) : Type 0 where
  pub of : IsCutOf g cut
  pub keeps : Keeps g lengths cut.lengths
  pub violated : IsViolatedAt g demands caps cut
