use Rattle.master_law.proofs.Laws.{least_share_violates_none}
use Rattle.master_law.proofs.law.least_share_violates_none.Goals as goal

pub returns : goal.returns
returns c = least_share_violates_none
