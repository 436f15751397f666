use Rattle.report_parts.{proofs.PartsOnline.routing_some, specs.Readers.{reader_demands, reader_names}}
use Rattle.report_parts.proofs.plan_reader.PlanReader.routings.Goals as goal

pub list-requires : goal.list-requires
list-requires c = λ sofar t x rest. routing_some (reader_names c.args.self.now) (reader_demands c.args.self.now) sofar t x rest
