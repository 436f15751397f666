-- what only private functions and proofs cite
pub mod Changes
pub mod Ranges
pub mod Running
pub mod Turns
