pub mod Rows
pub mod Mixed
pub mod Totals
pub mod inner
pub mod Terms
