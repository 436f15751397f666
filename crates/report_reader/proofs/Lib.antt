pub mod Variants
pub mod JournalLaws
pub mod PlanLaws
pub mod OutcomeLaws
pub mod ReportOnline
pub mod Whole
pub mod ReportLaws
pub mod Fillings
