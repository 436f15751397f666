pub mod Asking
pub mod Lowering
pub mod Rounds
