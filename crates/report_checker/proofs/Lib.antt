pub mod Apart
pub mod OnOneWalk
pub mod PoolLines
pub mod Reports
pub mod Telling
pub mod There
pub mod Walking
