-- The lemmas of other crates that crates above cite, passed on from one place. Declares nothing.
pub use Rattle.separator.proofs.Seeing.{part_few, sees_none}
