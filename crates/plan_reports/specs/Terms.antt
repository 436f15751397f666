-- The words of this crate and of its contracts for other crates, passed on from one place. Declares nothing.
pub use Rattle.acceptance.specs.Reports.{IsSoundOutcomeOf, IsSoundPlanOf}
pub use Rattle.acceptance.specs.Terms.{IsSeparationOf, IsTranscript}
pub use Rattle.plan_reports.specs.Laws.{IsAcceptable}
pub use Rattle.plan_reports.specs.LonePlans.{IsLoneAnswer, IsSoundDesign, plan_commands, redesigned_plan, whole_report}
pub use Rattle.plan_reports.specs.declared.planned_report.PlannedReport.{PlannedReport}
pub use Rattle.trim_plan.specs.Trimmed.{IsRoutedPlan}
pub use Rattle.trim_plan.specs.declared.trimmed_plan.Block.{Block}
