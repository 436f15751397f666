pub mod Keys
pub mod Kept
pub mod KeyRows
pub mod Turns
pub mod Ties
pub mod KeyedBases
pub mod Laws
pub mod Terms
