pub mod Alone
pub mod Answered
pub mod Listing
pub mod Sharing
pub mod Turns
