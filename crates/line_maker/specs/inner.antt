pub mod Candidates
pub mod Divisors
