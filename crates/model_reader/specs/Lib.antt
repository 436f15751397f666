pub mod Failures
pub mod FailuresReading
pub mod FaultWords
pub mod ModelReading
pub mod Models
pub mod Terms
