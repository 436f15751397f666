use Rattle.plan_law.proofs.Greatest.{tight_is_greatest}
use Rattle.plan_law.proofs.law.tight_is_greatest.Goals as goal

pub returns : goal.returns
returns c = tight_is_greatest
