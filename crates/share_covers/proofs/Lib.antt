pub mod Certain
pub mod Choosing
pub mod Covered
pub mod Sharing
pub mod StateRoutes
pub mod Widening
