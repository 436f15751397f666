pub mod Tables
pub mod Triangle
