pub mod inner
pub mod Bases
pub mod FirstRoles
pub mod KeyRows
pub mod KeyTests
pub mod Names
pub mod Terms
