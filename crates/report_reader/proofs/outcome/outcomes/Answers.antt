use Rattle.report_words.specs.Terms.{known_in}
use Rattle.report_reader.proofs.ReportOnline.{outcome_some}
use Rattle.report_reader.proofs.outcome.outcomes.Goals as goal

pub list-requires : goal.list-requires
list-requires c = λ sofar t x rest. outcome_some (known_in c.args.context.now) c.args.pool.now sofar t x rest
