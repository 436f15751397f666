pub mod Commands
pub mod Run
pub mod inner
