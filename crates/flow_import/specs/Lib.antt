pub mod Imports
pub mod inner
