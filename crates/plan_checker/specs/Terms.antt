-- The words of this crate, passed on from one place to other crates. Declares nothing.
pub use Rattle.plan_checker.specs.Carried.{HasBadPath, IsOverloaded, IsUncarried}
pub use Rattle.plan_checker.specs.Certified.{HasStaleRight, HoldsCostDiffers, IsLocalCut, IsOverpriced}
pub use Rattle.plan_checker.specs.Order.{HoldNone, HoldsNone, IsFirstFinding, Kind}
pub use Rattle.plan_checker.specs.Places.{HoldsAt, IsLeastPlace}
pub use Rattle.plan_checker.specs.PlanFindings.{HoldsDemandsDiffer, IsAcceptedPlan, plan_case, plan_findings}
pub use Rattle.plan_checker.specs.Shares.{AreCarried, GivesShare, HoldsNotTight, IsShareOf, IsTight}
pub use Rattle.plan_checker.specs.inner.Tests.{StopsBy, StopsFirst, TellFirst, Tells}
