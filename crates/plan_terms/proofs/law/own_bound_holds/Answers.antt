use Rattle.plan_terms.proofs.OwnBounds.{own_bound_holds}
use Rattle.plan_terms.proofs.law.own_bound_holds.Goals as goal

pub returns : goal.returns
returns c = own_bound_holds
