pub mod Bests
pub mod Gaining
pub mod Lines
pub mod Programs
pub mod Shares
