-- The lemmas of other crates that crates above cite, passed on from one place. Declares nothing.
pub use Rattle.node_sets.proofs.Boundaries.{violated_at}
pub use Rattle.row_cuts.proofs.Founds.{boundary_found}
