use Rattle.tree_check.proofs.Verdicts.{open_leaves_hold}
use Rattle.tree_check.proofs.law.open_leaves_hold.Goals as goal

pub returns : goal.returns
returns c = open_leaves_hold
