pub mod Histories
pub mod Lemmas
pub mod Reports
pub mod Shares
pub mod Snapshots
pub mod Sound
pub mod Transcripts
