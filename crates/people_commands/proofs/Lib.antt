pub mod Causing
pub mod Nothing
pub mod Planning
pub mod Separated
pub mod Viewing
