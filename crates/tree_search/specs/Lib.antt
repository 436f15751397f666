pub mod Proving
pub mod FewSplits
pub mod Terms
pub mod inner
