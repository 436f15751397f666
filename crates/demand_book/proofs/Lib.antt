pub mod Changed
mod Replies
