pub mod Ratios
pub mod Walks
