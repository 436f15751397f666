use Rattle.master_law.proofs.Laws.{own_bound_at_most}
use Rattle.master_law.proofs.law.bound_rises.Goals as goal

pub returns : goal.returns
returns c = own_bound_at_most
