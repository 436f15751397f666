pub mod Inequalities
pub mod Lines
pub mod Laws
pub mod Testing
pub mod Terms
pub mod inner
pub mod CoverWeights
