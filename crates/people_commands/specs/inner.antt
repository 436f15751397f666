pub mod Causes
pub mod Printing
