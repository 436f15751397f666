-- The lemmas of other crates that crates above cite, passed on from one place. Declares nothing.
pub use Rattle.plan_reports.proofs.Lemmas.{lone_plans_carry}
