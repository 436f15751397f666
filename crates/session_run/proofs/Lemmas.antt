-- The lemmas of other crates that crates above cite, passed on from one place. Declares nothing.
pub use Rattle.planner.proofs.Histories.{cuts_both}
pub use Rattle.planner.proofs.InForm.{cost_low, of_list, path_in_form}
pub use Rattle.planner.proofs.Lemmas.{carries_certain}
