use Rattle.plan_law.proofs.PublicLaws.{worked_lists_fill}
use Rattle.plan_law.proofs.law.worked_lists_fill.Goals as goal

pub returns : goal.returns
returns c = worked_lists_fill
