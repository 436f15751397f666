pub mod Findings
pub mod Checks
pub mod Separations
