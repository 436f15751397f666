pub mod Stopping
pub mod Refusing
