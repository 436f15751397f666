pub mod FailureSingles
pub mod FailureLaws
pub mod ModelKeys
pub mod ModelLaws
