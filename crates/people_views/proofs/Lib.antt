mod SameDemands
mod KeptDemands
pub mod SoundOutcomes
mod TreesHeld
mod TreesRead
mod Findings
mod Joined
mod TreeWords
