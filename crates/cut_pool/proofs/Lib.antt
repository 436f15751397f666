mod Admitting
mod Boards
mod Following
pub mod Growing
mod Leaving
mod Places
mod Sides
mod Told
