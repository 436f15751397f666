use Rattle.plan_report.specs.Terms.{known_of}
use Rattle.report_reader.{proofs.JournalLaws.pool_few, proofs.ReportOnline.pool_line_some}
use Rattle.report_reader.proofs.pool.pool.Goals as goal

pub list-requires : goal.list-requires
list-requires c = λ sofar t x rest. pool_line_some (known_of c.args.net.now c.args.states.now) sofar t x rest

pub returns-clause-few : goal.returns-clause-few
returns-clause-few c = pool_few (known_of c.args.net.now c.args.states.now) c.list.result _ _ c.list.ensures
