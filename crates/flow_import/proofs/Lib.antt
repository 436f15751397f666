pub mod Parts
pub mod Splitting
pub mod Carrying
pub mod Importing
