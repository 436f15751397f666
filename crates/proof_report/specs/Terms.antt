-- The words of this crate's contracts from other crates, passed on from one place to crates above. Declares nothing.
pub use Rattle.tree_search.specs.FewSplits.{AreCharged}
pub use Rattle.plan_reports.specs.BlockLines.{block_lines}
pub use Rattle.plan_reports.specs.Terms.{Block, IsSeparationOf, IsTranscript, plan_commands, whole_report}
pub use Rattle.plan_reports.specs.TrimmedReports.{IsTrimEnding, IsTrimmedReport}
