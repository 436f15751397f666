-- The words of this crate's contracts from other crates, passed on from one place to crates above. Declares nothing.
pub use Rattle.able_counts.specs.AbleTests.{AreRoutingsWithin, IsRoutingOf, IsRoutingWithin, IsStopAt, IsTestOf, IsWideSomewhere, whole_caps}
pub use Rattle.able_counts.specs.Terms.{IsFinding}
pub use Rattle.able_counts.specs.declared.stop.Stop.TheVariants.{Cut, Wide}
pub use Rattle.able_counts.specs.declared.stop.Stop.{Stop}
pub use Rattle.able_counts.specs.declared.stop.Stop.TheVariants as stop
