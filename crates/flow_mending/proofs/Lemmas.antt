-- The lemmas of other crates that crates above cite, passed on from one place. Declares nothing.
pub use Rattle.short_paths.proofs.Leading.{joins_told}
