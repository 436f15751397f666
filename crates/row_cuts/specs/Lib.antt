pub mod FoundCuts
pub mod inner
pub mod KeyPaths
pub mod Laws
pub mod PathRows
