use Rattle.plan_reports.proofs.CheaperKept.{cheaper_redesigns_are_plans}
use Rattle.plan_reports.proofs.design_law.cheaper_redesigns_are_plans.Goals as goal

pub returns : goal.returns
returns c = cheaper_redesigns_are_plans
