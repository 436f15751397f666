pub mod Changes
pub mod Markup
pub mod Pictures
pub mod ReportPictures
pub mod Terms
