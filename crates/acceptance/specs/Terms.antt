-- The words of this crate's contracts from other crates, passed on from one place to crates above. Declares nothing.
pub use Rattle.report_checker.specs.Outcomes.{IsBelowAllAble, case_at, outcome_findings}
pub use Rattle.report_checker.specs.ReportFindings.{HasNoFinding}
pub use Rattle.session_run.specs.Terms.{IsSnapshotPlan}
pub use Rattle.session_run.specs.Transcripts.{IsOutcomeAfter, IsPlanBetween, IsPlanned, IsTranscript, RunsFrom, acts_of, edit_asked, edit_made, outcome_caller}
pub use Rattle.session_run.specs.Transcripts.{IsSeparationOf, outcomes_of}
