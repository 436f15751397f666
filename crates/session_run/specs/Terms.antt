-- The words of this crate's contracts from other crates, passed on from one place to crates above. Declares nothing.
pub use Rattle.planner.specs.SnapshotPlans.{IsSnapshotPlan}
pub use Rattle.separation_workers.specs.Terms.{IsFullHistory, IsSpotIn}
