pub mod Passes
pub mod Sent
mod Turns
