pub mod ReportKinds
pub mod ReportFields
pub mod ReportWords
pub mod Contexts
pub mod ReportChoices
pub mod Terms
