pub mod Capacities
pub mod Slots
pub mod Tests
