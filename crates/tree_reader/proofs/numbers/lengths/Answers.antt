use Rattle.report_words.proofs.WordsOnline.{next_number_some}
use Rattle.tree_reader.proofs.numbers.lengths.Goals as goal

pub list_to-requires : goal.list_to-requires
list_to-requires c = λ sofar t x rest. next_number_some c.args.count _ sofar t x rest
