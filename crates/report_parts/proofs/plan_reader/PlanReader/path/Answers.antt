use Rattle.report_parts.{proofs.PartsOnline.link_some, specs.Readers.reader_links}
use Rattle.report_parts.proofs.plan_reader.PlanReader.path.Goals as goal

pub list-requires : goal.list-requires
list-requires c = λ sofar t x rest. link_some (reader_links c.args.self.now) sofar t x rest
