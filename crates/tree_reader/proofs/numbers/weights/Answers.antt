use Rattle.tree_reader.proofs.Elements.{weight_some}
use Rattle.tree_reader.proofs.numbers.weights.Goals as goal

pub list_to-requires : goal.list_to-requires
list_to-requires c = λ sofar t x rest. weight_some t x rest
