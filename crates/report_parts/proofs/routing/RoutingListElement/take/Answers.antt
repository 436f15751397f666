use Rattle.report_parts.{proofs.PartsOnline.flow_some, specs.Readers.{reader_demands, reader_links}}
use Rattle.report_parts.proofs.routing.RoutingListElement.take.Goals as goal

pub list-requires : goal.list-requires
list-requires c = λ sofar t x rest. flow_some (reader_links c.args.self.now.reader) (reader_demands c.args.self.now.reader) sofar t x rest
