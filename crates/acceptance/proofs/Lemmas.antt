-- The lemmas of other crates that crates above cite, passed on from one place. Declares nothing.
pub use Rattle.session_run.proofs.Lemmas.{carries_certain, cost_low, of_list, path_in_form}
