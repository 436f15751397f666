pub mod Lemmas
pub mod Places
pub mod Seen
mod Desks
mod Pooling
mod Shown
mod Working
