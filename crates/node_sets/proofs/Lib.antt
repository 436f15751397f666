pub mod Boundaries
