pub mod Members
pub mod NarrowCaps
