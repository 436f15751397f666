-- cuts of priced lengths that capacities violate in a state
use Rattle.std.specs.Prelude.{ℕ, ℤ, List, length}
use Rattle.plan_terms.specs.Terms.{Demand, Caps, Graph, Keeps}
use Rattle.metric_cut.{specs.Cuts.IsCutOf, specs.declared.cut.Cut.Cut}
use Rattle.route_law.specs.Terms.{ArePricedSomewhere}
use Rattle.node_sets.specs.Boundaries.{IsViolatedAt}
use Rattle.row_cuts.specs.PathRows.{ArePricedNumbers}

module _ (g : Graph) (demands : List Demand) (caps : Caps) where
  -- a cut that the capacities violate, by its right side at the demands; its lengths are what the state keeps of priced ones
  pub record IsFoundCutOf (cut : Cut) : Type 0 where
    pub of : IsCutOf g cut
    pub lengths : List ℕ
    pub priced : ArePricedSomewhere lengths
    pub keeps : Keeps g lengths cut.lengths
    pub violated : IsViolatedAt g demands caps cut

  -- such a cut, whose priced lengths are the numbers of a row
  pub record IsRowCut (nums : List ℤ) (cut : Cut) : Type 0 where
    pub of : IsCutOf g cut
    pub lengths : List ℕ
    pub row : ArePricedNumbers (length g.links) nums lengths
    pub keeps : Keeps g lengths cut.lengths
    pub violated : IsViolatedAt g demands caps cut
