pub mod Boards
pub mod Histories
pub mod Pools
pub mod Rooms
pub mod inner
pub mod Terms
