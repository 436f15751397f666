use Rattle.tree_check.proofs.Values.{box_value_holds}
use Rattle.tree_check.proofs.law.box_value_holds.Goals as goal

pub returns : goal.returns
returns c = box_value_holds
