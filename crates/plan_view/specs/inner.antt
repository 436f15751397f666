pub mod Lines
pub mod LowRoutings
pub mod Ends
