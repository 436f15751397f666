pub mod Making
pub mod Choosing
pub mod Elements
pub mod LinesOnline
pub mod Scanning
pub mod Places
pub mod TokenEnds
pub mod FirstFaults
pub mod EvidenceLaw
pub mod LineVariants
pub mod LineLaws
pub mod TreeLaws
pub mod Written
pub mod Writable
pub mod Spelling
pub mod Answered
pub mod Taking
mod TreeBegun
