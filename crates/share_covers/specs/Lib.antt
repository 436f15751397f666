pub mod Choices
pub mod InstalledRoutes
pub mod Laws
pub mod ShareCovers
pub mod Terms
pub mod inner
