pub mod Along
pub mod Outcomes
pub mod Said
pub mod Walks
