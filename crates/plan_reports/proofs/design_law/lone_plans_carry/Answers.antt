use Rattle.plan_reports.proofs.PlansOf.{lone_plans_carry}
use Rattle.plan_reports.proofs.design_law.lone_plans_carry.Goals as goal

pub returns : goal.returns
returns c = lone_plans_carry
