pub mod Laws
pub mod LoosePlans
pub mod TightPlans
pub mod WorkedLists
pub mod Terms
pub mod inner
