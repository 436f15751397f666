pub mod KeptCuts
pub mod Masks
pub mod Ratios
pub mod Rights
