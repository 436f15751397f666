pub mod Telling
pub mod Tokens
