pub mod Causing
pub mod Showing
pub mod Loading
