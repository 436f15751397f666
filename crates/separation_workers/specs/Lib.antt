pub mod Callers
pub mod Terms
pub mod inner
