-- The lemmas of other crates that crates above cite, passed on from one place. Declares nothing.
pub use Rattle.able_counts.proofs.FoundForms.{path_found}
pub use Rattle.able_counts.proofs.Testing.{routed_within, survivable_joins}
