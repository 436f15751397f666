pub mod Answering
pub mod Taking
