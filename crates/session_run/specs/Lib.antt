pub mod Terms
pub mod Transcripts
pub mod inner
