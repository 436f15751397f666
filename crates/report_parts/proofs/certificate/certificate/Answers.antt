use Rattle.report_words.specs.Terms.{known_in}
use Rattle.report_parts.proofs.PartsOnline.{certificate_line_some}
use Rattle.report_parts.proofs.certificate.certificate.Goals as goal

pub list-requires : goal.list-requires
list-requires c = λ sofar t x rest. certificate_line_some (known_in c.args.context.now) c.args.pool.now sofar t x rest
