pub mod Findings
pub mod Rooms
pub mod Separators
pub mod Spots
pub mod OneByOnes
pub mod Terms
pub mod inner
