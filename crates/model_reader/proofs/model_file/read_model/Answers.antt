use Rattle.model_reader.proofs.ModelLaws.{model_first, model_found, model_only}
use Rattle.model_reader.proofs.model_file.read_model.Goals as goal

pub returns-clause-found : goal.returns-clause-found
returns-clause-found c = model_found c.args.bytes.now c.file.result c.file.ensures

pub returns-clause-only : goal.returns-clause-only
returns-clause-only c = model_only c.args.bytes.now c.file.result c.file.ensures

pub returns-clause-not_early : goal.returns-clause-not_early
returns-clause-not_early c = model_first c.args.bytes.now c.file.result c.file.ensures
