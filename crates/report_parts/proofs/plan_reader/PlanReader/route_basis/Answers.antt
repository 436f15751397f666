use Rattle.report_words.specs.Terms.{has_room}
use Rattle.report_parts.{proofs.PartsOnline.route_column_some, specs.Readers.{reader_demands, reader_links}}
use Rattle.report_parts.proofs.plan_reader.PlanReader.route_basis.Goals as goal

pub list-requires : goal.list-requires
list-requires c = λ sofar t x rest. route_column_some (reader_links c.args.self.now) (reader_demands c.args.self.now) (has_room c.args.rows sofar) t x rest
