pub mod Blocked
pub mod inner
pub mod Left
