pub mod Carried
pub mod Certified
pub mod Order
pub mod Places
pub mod PlanFindings
pub mod Shares
pub mod inner
pub mod Terms
