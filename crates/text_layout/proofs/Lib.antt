pub mod Widening
pub mod Widths
