use Rattle.plan_reports.proofs.Accepted.{lone_plans_are_accepted}
use Rattle.plan_reports.proofs.law.lone_plans_are_accepted.Goals as goal

pub returns : goal.returns
returns c = lone_plans_are_accepted
