-- The lemmas of other crates that crates above cite, passed on from one place. Declares nothing.
pub use Rattle.separator.proofs.Pooling.{cuts_both, get_after}
pub use Rattle.separator.proofs.Seeing.{sees_none}
