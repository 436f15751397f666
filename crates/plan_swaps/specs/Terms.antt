-- The words of this crate's contracts from other crates, passed on from one place to crates above. Declares nothing.
pub use Rattle.trim_plan.specs.Terms.{AreRoutingsWithin, IsFinding, IsRoutingWithin, IsStopAt, IsTestOf, IsWideSomewhere, Stop, whole_caps}
pub use Rattle.trim_plan.specs.Trimmed.{AreAtMost, IsRoutedPlan}
pub use Rattle.trim_plan.specs.declared.lowered_counts.Place.{Place}
pub use Rattle.trim_plan.specs.Terms.stop as stop
