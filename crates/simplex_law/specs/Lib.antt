pub mod Sums
pub mod Programs
pub mod Bases
pub mod Evidence
pub mod Optima
pub mod inner
pub mod Terms
