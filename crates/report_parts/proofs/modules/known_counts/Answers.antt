use Rattle.report_parts.proofs.PartsOnline.{count_some}
use Rattle.report_parts.proofs.modules.known_counts.Goals as goal

pub list-requires : goal.list-requires
list-requires c = λ sofar t x rest. count_some c.args.link.now sofar t x rest
