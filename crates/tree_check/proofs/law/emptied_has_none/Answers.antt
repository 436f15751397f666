use Rattle.tree_check.proofs.EmptiedBoxes.{emptied_has_none}
use Rattle.tree_check.proofs.law.emptied_has_none.Goals as goal

pub returns : goal.returns
returns c = emptied_has_none
