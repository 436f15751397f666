use Rattle.tree_search.proofs.Unspent.{none_is_spent}
use Rattle.tree_search.proofs.law.none_is_spent.Goals as goal

pub returns : goal.returns
returns c = none_is_spent
