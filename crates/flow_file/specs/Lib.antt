pub mod FlowKinds
pub mod FlowFiles
pub mod FlowReading
