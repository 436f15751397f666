-- The lemmas of this crate and of others that crates above cite, passed on from one place. Declares nothing.
pub use Rattle.acceptance.proofs.Histories.{history_cuts}
pub use Rattle.acceptance.proofs.Transcripts.{transcript_accepted, transcript_sound}
pub use Rattle.plan_reports.proofs.Accepted.{lone_plans_are_accepted}
pub use Rattle.plan_reports.proofs.Alone.{unmoved}
pub use Rattle.plan_reports.proofs.CheaperKept.{cheaper_redesigns_are_plans}
pub use Rattle.plan_reports.proofs.PlansOf.{lone_plans_carry}
