pub mod Endings
pub mod Messages
pub mod CaseInputs
pub mod Terms
