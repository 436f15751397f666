pub mod Answers
pub mod Narrow
pub mod Optima
pub mod inner
