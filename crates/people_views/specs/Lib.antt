pub mod AcceptedReports
pub mod ProofLines
pub mod ReportEnds
pub mod StateForms
pub mod Terms
pub mod Forms
