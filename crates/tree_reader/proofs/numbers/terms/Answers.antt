use Rattle.tree_reader.proofs.Elements.{term_some}
use Rattle.tree_reader.proofs.numbers.terms.Goals as goal

pub list_to-requires : goal.list_to-requires
list_to-requires c = λ sofar t x rest. term_some t x rest
