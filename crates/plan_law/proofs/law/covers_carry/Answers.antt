use Rattle.plan_law.proofs.Covering.{covers_carry}
use Rattle.plan_law.proofs.law.covers_carry.Goals as goal

pub returns : goal.returns
returns c = covers_carry
