pub mod FateItems
pub mod Listings
pub mod SeparationsSoFar
