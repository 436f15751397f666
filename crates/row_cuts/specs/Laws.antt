-- a row of a basis of key paths is priced where each key is a shortest path under it
use Rattle.std.specs.Prelude.{ℕ, ℤ, ◌<◌, ◌≤◌, List, length}
use Rattle.plan_terms.specs.Terms.{RouteColumn, Demand, LinkId, AreDemands, Graph, IsNetwork, AreStates}
use Rattle.route_law.specs.Terms.{AreLinkPrices, ArePricedSomewhere}
use Rattle.row_cuts.specs.KeyPaths.{IsPathBasis, HasShortestKeys}

-- row r of a basis of key paths, in lowest terms, is priced somewhere, where each key is a shortest path under it
abbrev pub RowsArePriced : Type 0
RowsArePriced = (g : Graph) (demands : List Demand) (keys : ℕ → List LinkId) (columns : ℕ → RouteColumn) (rows : ℕ → ℕ → ℤ) (dens : ℕ → ℤ) (r : ℕ)
    (lengths : List ℕ)
    → IsNetwork g.nodes g.links
    → AreStates (length g.links) g.listed
    → g.state ≤ length g.listed
    → AreDemands (length g.nodes) demands
    → IsPathBasis g demands keys columns rows dens
    → r < length g.links
    → HasShortestKeys g demands keys (rows r)
    → AreLinkPrices (length g.links) (rows r) lengths
    → ArePricedSomewhere lengths
