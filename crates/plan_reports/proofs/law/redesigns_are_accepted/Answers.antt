use Rattle.plan_reports.proofs.Accepted.{redesigns_are_accepted}
use Rattle.plan_reports.proofs.law.redesigns_are_accepted.Goals as goal

pub returns : goal.returns
returns c = redesigns_are_accepted
