pub mod Amounts
pub mod Candidates
pub mod Dividing
pub mod Entries
pub mod Packing
pub mod RowsMade
