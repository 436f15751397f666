pub mod Journals
pub mod Pools
pub mod Outcomes
pub mod ReportFindings
pub mod Terms
pub mod inner
