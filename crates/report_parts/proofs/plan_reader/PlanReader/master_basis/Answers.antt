use Rattle.report_words.specs.Terms.{has_room}
use Rattle.report_parts.{proofs.PartsOnline.master_column_some, specs.Readers.reader_names}
use Rattle.report_parts.proofs.plan_reader.PlanReader.master_basis.Goals as goal

pub list-requires : goal.list-requires
list-requires c = λ sofar t x rest. master_column_some (reader_names c.args.self.now) (has_room c.args.rows sofar) t x rest
