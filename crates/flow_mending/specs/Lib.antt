pub mod Terms
pub mod inner
