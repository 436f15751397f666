use Rattle.session_script.proofs.ScriptLaws.{script_first, script_found, script_only}
use Rattle.session_script.proofs.reader.read_script.Goals as goal

pub returns-clause-found : goal.returns-clause-found
returns-clause-found c = script_found c.args.places c.args.bytes.now c.file.result c.file.ensures

pub returns-clause-only : goal.returns-clause-only
returns-clause-only c = script_only c.args.places c.args.bytes.now c.file.result c.file.ensures

pub returns-clause-not_early : goal.returns-clause-not_early
returns-clause-not_early c = script_first c.args.places c.args.bytes.now c.file.result c.file.ensures
