pub mod Places
pub mod Windows
pub mod Cells
