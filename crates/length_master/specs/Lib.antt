pub mod WideShares
pub mod inner
