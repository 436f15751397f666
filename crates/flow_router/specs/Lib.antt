pub mod Answers
pub mod Lowest
pub mod inner
