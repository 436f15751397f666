pub mod Picking
pub mod Lessening
pub mod Trailing
pub mod Starts
pub mod Circles
pub mod Steps
pub mod Ending
