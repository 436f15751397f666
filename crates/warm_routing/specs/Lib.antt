pub mod Terms
pub mod WarmAnswers
pub mod inner
