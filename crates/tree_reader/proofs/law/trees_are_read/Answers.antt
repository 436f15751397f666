use Rattle.tree_reader.proofs.Spelling.{trees_are_read}
use Rattle.tree_reader.proofs.law.trees_are_read.Goals as goal

pub returns : goal.returns
returns c = trees_are_read
