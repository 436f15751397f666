pub mod Telling
pub mod FlowsOnline
pub mod FlowLaws
