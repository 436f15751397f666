pub mod Pooling
pub mod Shares
