pub mod BasisLines
pub mod Laws
pub mod LeastShares
pub mod MasterEvidence
pub mod MasterPrograms
pub mod UnitPairs
pub mod Terms
