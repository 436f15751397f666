pub mod Seen
pub mod Working
