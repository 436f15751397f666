-- The words of this crate's contracts from other crates, passed on from one place to crates above. Declares nothing.
pub use Rattle.flow_router.specs.Answers.{IsEvidenceHere, IsRouteAnswer, IsRouted, IsViolatedCut}
pub use Rattle.flow_router.specs.Lowest.{IsCommonDivisor}
pub use Rattle.flow_router.specs.declared.answer.RouteAnswer.TheVariants.{Routed, Violated, Wide}
pub use Rattle.flow_router.specs.declared.answer.RouteAnswer.{RouteAnswer}
