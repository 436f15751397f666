pub mod Finding
pub mod Weighing
