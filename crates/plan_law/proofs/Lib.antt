pub mod Begun
pub mod Covering
pub mod Examples
pub mod Greatest
pub mod Pairs
pub mod PublicLaws
pub mod Rounds
