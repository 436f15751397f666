pub mod Plans
pub mod Outcomes
pub mod Terms
