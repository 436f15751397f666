-- The words of this crate's contracts from other crates, passed on from one place to crates above. Declares nothing.
pub use Rattle.flow_mending.specs.Terms.{IsEvidenceHere, IsRouteAnswer, IsRouted, IsViolatedCut, RouteAnswer, Routed, Violated, Wide}
pub use Rattle.node_sets.specs.Boundaries.{IsBoundaryCut}
pub use Rattle.row_cuts.specs.FoundCuts.{IsFoundCutOf}
