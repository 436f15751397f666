pub mod Few
pub mod Plans
pub mod Views
