pub mod Decided
pub mod RoutedCovers
pub mod SharedRoutes
pub mod Widened
