use Rattle.model_reader.proofs.FailureLaws.{failures_first, failures_found, failures_only}
use Rattle.model_reader.proofs.failure_file.read_failures.Goals as goal

pub returns-clause-found : goal.returns-clause-found
returns-clause-found c = failures_found c.args.net.now.nodes c.args.net.now.links c.args.net.now.checked c.args.bytes.now c.file.result c.file.ensures

pub returns-clause-only : goal.returns-clause-only
returns-clause-only c = failures_only c.args.net.now.nodes c.args.net.now.links c.args.net.now.checked c.args.bytes.now c.file.result c.file.ensures

pub returns-clause-not_early : goal.returns-clause-not_early
returns-clause-not_early c = failures_first c.args.net.now.nodes c.args.net.now.links c.args.net.now.checked c.args.bytes.now c.file.result c.file.ensures
