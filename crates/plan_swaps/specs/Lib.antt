pub mod Swaps
pub mod Terms
pub mod inner
