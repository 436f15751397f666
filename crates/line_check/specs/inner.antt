pub mod Dividing
pub mod Tables
pub mod Rows
