use Rattle.trim_plan.proofs.Least.{trimmed_are_least}
use Rattle.trim_plan.proofs.law.trimmed_are_least.Goals as goal

pub returns : goal.returns
returns c = trimmed_are_least
