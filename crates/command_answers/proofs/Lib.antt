pub mod SinglePlans
pub mod Clauses
pub mod Sampled
