use Rattle.report_reader.proofs.ReportOnline.{entry_some}
use Rattle.report_reader.proofs.journal.entries.Goals as goal

pub list-requires : goal.list-requires
list-requires c = λ sofar t x rest. entry_some c.args.places sofar t x rest
