use Rattle.tree_check.proofs.Verdicts.{cheapest_holds}
use Rattle.tree_check.proofs.law.cheapest_holds.Goals as goal

pub returns : goal.returns
returns c = cheapest_holds
