pub mod Ends
pub mod Entering
pub mod Gaining
pub mod Held
pub mod Outcomes
pub mod Starts
pub mod Turning
