pub mod AbleTests
pub mod Terms
pub mod inner
