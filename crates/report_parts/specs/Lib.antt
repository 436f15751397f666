pub mod Readers
pub mod ReadingRoutings
pub mod ReadingQuality
pub mod ReadingParts
