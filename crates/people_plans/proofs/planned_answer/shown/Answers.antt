use Rattle.std.proofs.Common.{refl}
use Rattle.people_plans.proofs.planned_answer.shown.Goals as goal

pub returns : goal.returns
returns c = (refl, record { report = c.args.report.now; proved = c.requires; printed = (c.in_ok-text.ensures, c.new.ensures) })
