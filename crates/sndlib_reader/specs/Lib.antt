pub mod Balance
pub mod Kinds
pub mod NetworkFiles
pub mod Paths
pub mod Reading
pub mod Spelling
pub mod Terms
pub mod inner
