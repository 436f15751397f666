pub mod Balances
pub mod Splits
pub mod inner
