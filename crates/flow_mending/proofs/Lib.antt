pub mod Counted
pub mod Lemmas
