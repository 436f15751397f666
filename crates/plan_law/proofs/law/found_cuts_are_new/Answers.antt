use Rattle.plan_law.proofs.PublicLaws.{found_cuts_are_new}
use Rattle.plan_law.proofs.law.found_cuts_are_new.Goals as goal

pub returns : goal.returns
returns c = found_cuts_are_new
