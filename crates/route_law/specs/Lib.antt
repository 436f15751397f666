pub mod BasisFlows
pub mod Divisions
pub mod Laws
pub mod PricedLengths
pub mod RouteEvidence
pub mod Routings
pub mod RoutingPrograms
pub mod Terms
