pub mod Money
pub mod Numbered
