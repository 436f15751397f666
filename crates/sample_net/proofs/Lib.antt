pub mod Naming
pub mod Sequence
pub mod Pairs
pub mod Rings
pub mod Surviving
pub mod Takes
pub mod Sound
pub mod Spelling
