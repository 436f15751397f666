pub mod Legs
pub mod Trails
pub mod Remains
