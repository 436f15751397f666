mod Firsts
mod LineSums
mod Plans
pub mod RowLists
mod Rounding
mod Sums
pub mod Steps
