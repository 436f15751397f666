pub mod Hints
pub mod Priced
pub mod inner
