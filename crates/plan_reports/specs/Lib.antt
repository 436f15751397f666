pub mod LonePlans
pub mod Laws
pub mod Designs
pub mod ImportedPlans
pub mod BlockLines
pub mod TrimmedReports
pub mod Terms
