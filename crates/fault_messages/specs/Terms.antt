-- The words of this crate, passed on from one place to other crates. Declares nothing.
pub use Rattle.fault_messages.specs.FailuresMessages.{failures_message}
pub use Rattle.fault_messages.specs.FindingMessages.{finding_message}
pub use Rattle.fault_messages.specs.ModelMessages.{model_message}
pub use Rattle.fault_messages.specs.NearNames.{IsNearestNote}
pub use Rattle.fault_messages.specs.NetworkMessages.{network_message}
pub use Rattle.fault_messages.specs.Notes.{AreFailuresNotes, AreModelNotes, AreNetworkNotes, AreReportNotes}
pub use Rattle.fault_messages.specs.ReportMessages.{proof_message, report_message}
