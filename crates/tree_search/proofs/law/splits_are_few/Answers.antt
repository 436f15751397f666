use Rattle.tree_search.proofs.Rooms.{splits_are_few}
use Rattle.tree_search.proofs.law.splits_are_few.Goals as goal

pub returns : goal.returns
returns c = splits_are_few
