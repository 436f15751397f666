pub mod Made
pub mod Terms
pub mod inner
pub mod Orders
