pub mod Coverings
pub mod inner
