pub mod Answers
pub mod ImportFaults
