use Rattle.report_words.proofs.WordsOnline.{next_number_some}
use Rattle.report_words.proofs.numbers.lengths.Goals as goal

pub list-requires : goal.list-requires
list-requires c = λ sofar t x rest. next_number_some c.args.count _ sofar t x rest
