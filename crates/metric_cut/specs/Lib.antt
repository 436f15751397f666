pub mod Bounded
pub mod Cuts
pub mod inner
