pub mod Made
pub mod SetCuts
pub mod inner
