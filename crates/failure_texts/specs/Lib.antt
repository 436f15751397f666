pub mod FailureTexts
pub mod Fates
pub mod inner
pub mod AllSeparations
