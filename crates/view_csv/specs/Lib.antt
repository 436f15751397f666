pub mod Columns
pub mod Fields
pub mod Sheets
pub mod Terms
pub mod CommaSeparated
