-- The words of this crate, passed on from one place to other crates. Declares nothing.
pub use Rattle.plan_types.specs.Outcomes.{outcome_position}
pub use Rattle.plan_types.specs.Plans.{IsCarryingPlan, IsCertifiedPlan, IsCostedPlan, lines_of_certificate}
