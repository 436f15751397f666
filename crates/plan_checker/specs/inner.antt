pub mod Examples
pub mod Lines
pub mod Mixed
pub mod Routes
pub mod Tests
