pub mod Held
pub mod Machine
pub mod Outside
pub mod inner
pub mod Statuses
