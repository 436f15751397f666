use Rattle.plan_report.specs.Terms.{known_of}
use Rattle.report_reader.proofs.ReportLaws.{report_first, report_found, report_only}
use Rattle.report_reader.proofs.reader.read_report.Goals as goal

pub returns-clause-found : goal.returns-clause-found
returns-clause-found c = report_found (known_of c.args.net.now c.args.states.now) c.args.net.now.checked c.args.bytes.now c.file.result c.file.ensures

pub returns-clause-only : goal.returns-clause-only
returns-clause-only c = report_only (known_of c.args.net.now c.args.states.now) c.args.net.now.checked c.args.bytes.now c.file.result c.file.ensures

pub returns-clause-not_early : goal.returns-clause-not_early
returns-clause-not_early c = report_first (known_of c.args.net.now c.args.states.now) c.args.net.now.checked c.args.bytes.now c.file.result c.file.ensures
