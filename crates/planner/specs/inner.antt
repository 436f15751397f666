-- what only private functions and proofs cite
pub mod Candidates
pub mod Finishing
