pub mod Lists
pub mod Places
pub mod Turns
pub mod Passing
