-- The lemmas of this crate, passed on from one place to other crates. Declares nothing.
pub use Rattle.view_cells.proofs.Appended.{appended, appended_five, appended_three}
