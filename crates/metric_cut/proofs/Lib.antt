pub mod Keepings
pub mod KeptCuts
pub mod Leasts
pub mod Lines
pub mod Pairs
pub mod Sides
