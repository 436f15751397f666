pub mod Flowing
pub mod Lengths
pub mod Solutions
