pub mod Emptying
pub mod Evidences
pub mod Totals
pub mod Walking
pub mod Weighing
