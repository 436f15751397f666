use Rattle.plan_terms.proofs.Duality.{weak_duality}
use Rattle.plan_terms.proofs.law.weak_duality.Goals as goal

pub returns : goal.returns
returns c = weak_duality
