pub mod FoundForms
pub mod Testing
