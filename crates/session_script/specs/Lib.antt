pub mod Scripts
pub mod ScriptReading
pub mod ScriptKinds
pub mod Terms
