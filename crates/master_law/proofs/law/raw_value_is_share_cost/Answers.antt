use Rattle.master_law.proofs.Laws.{raw_value_is_share_cost}
use Rattle.master_law.proofs.law.raw_value_is_share_cost.Goals as goal

pub returns : goal.returns
returns c = raw_value_is_share_cost
