pub mod DistanceRows
pub mod DistanceTables
pub mod PricedPaths
pub mod inner
