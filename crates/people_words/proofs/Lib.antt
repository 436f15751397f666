pub mod Reading
pub mod GivenCommands
pub mod WordCommands
