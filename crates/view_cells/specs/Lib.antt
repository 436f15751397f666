pub mod Cells
pub mod ModuleWords
pub mod Tables
pub mod Terms
