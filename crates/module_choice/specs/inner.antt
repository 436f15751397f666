pub mod Cheapest
pub mod Kinds
pub mod Routes
pub mod Tables
