pub mod Boundaries
pub mod inner
