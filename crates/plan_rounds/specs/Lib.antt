pub mod Terms
pub mod WorkedRounds
pub mod inner
