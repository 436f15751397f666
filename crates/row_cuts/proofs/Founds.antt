-- cuts of rows and of sets of nodes are cuts of priced lengths
use Rattle.std.proofs.Common.{List}
use Rattle.plan_terms.specs.Terms.{Demand, Caps, Graph}
use Rattle.metric_cut.specs.declared.cut.Cut.{Cut}
use Rattle.node_sets.specs.Boundaries.{IsBoundaryCut, boundary_lengths}
use Rattle.row_cuts.specs.FoundCuts.{IsFoundCutOf}

-- a cut of a set of nodes is one of priced lengths
pub boundary_found : (g : Graph) (demands : List Demand) (caps : Caps) (cut : Cut) → IsBoundaryCut g demands caps cut → IsFoundCutOf g demands caps cut
boundary_found g demands caps cut is = record { of = is.of; lengths = boundary_lengths is.is_member g.links; priced = is.priced; keeps = is.keeps; violated = is.violated }
