pub mod Dearest
pub mod Terms
pub mod Trimmed
pub mod Laws
pub mod inner
