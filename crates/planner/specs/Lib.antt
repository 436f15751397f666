pub mod SnapshotPlans
pub mod SoundPlans
pub mod Terms
pub mod inner
