pub mod ReadingJournal
pub mod ReadingPlan
pub mod ReadingReport
