-- The lemmas of other crates that crates above cite, passed on from one place. Declares nothing.
pub use Rattle.trim_plan.proofs.AtMost.{shape_at_most, total_at_most}
pub use Rattle.trim_plan.proofs.Lemmas.{path_found, routed_within, survivable_joins}
pub use Rattle.trim_plan.proofs.Plans.{routed_with}
