pub mod Laws
pub mod Reports
pub mod Terms
pub mod Transcripts
