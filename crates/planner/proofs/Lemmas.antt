-- The lemmas of other crates that crates above cite, passed on from one place. Declares nothing.
pub use Rattle.plan_rounds.proofs.OwnPool.{all_cuts}
pub use Rattle.share_covers.proofs.Certain.{carries_certain}
