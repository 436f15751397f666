-- The lemmas that crates above cite, passed on from one place. Declares nothing.
pub use Rattle.tree_boxes.proofs.FreeValues.{divisor_exists}
pub use Rattle.tree_search.proofs.Rooms.{splits_more}
