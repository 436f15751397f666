pub mod InputWords
pub mod Inputs
pub mod Refusals
pub mod Shelves
pub mod Stops
pub mod Terms
pub mod inner
