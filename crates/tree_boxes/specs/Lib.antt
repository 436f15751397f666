pub mod Causes
pub mod Finds
pub mod Searches
pub mod Terms
pub mod inner
