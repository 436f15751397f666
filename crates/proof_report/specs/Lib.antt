pub mod ProvedReports
pub mod Terms
