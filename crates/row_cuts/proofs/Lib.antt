pub mod Founds
pub mod Best
pub mod Columns
pub mod CountedNeeds
pub mod Counts
pub mod Exchanged
pub mod Found
pub mod Tested
