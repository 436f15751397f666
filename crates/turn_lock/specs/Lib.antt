pub mod Histories
pub mod Passes
pub mod Terms
pub mod inner
