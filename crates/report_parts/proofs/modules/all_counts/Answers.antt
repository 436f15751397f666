use Rattle.report_parts.proofs.PartsOnline.{next_counts_some}
use Rattle.report_parts.proofs.modules.all_counts.Goals as goal

pub list-requires : goal.list-requires
list-requires c = λ sofar t x rest. next_counts_some c.args.links.now sofar t x rest
