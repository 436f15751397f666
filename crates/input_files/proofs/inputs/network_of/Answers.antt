use Rattle.std.proofs.Common.{Err, ap}
use Rattle.input_files.proofs.Refusing.{network_refused}
use Rattle.input_files.proofs.inputs.network_of.Goals as goal

pub returns-in-Err-Bad-clause-refused : goal.returns-in-Err-Bad-clause-refused
returns-in-Err-Bad-clause-refused c =
    network_refused c.args.bytes.now c.in-Err-Bad.at c.in-Err-Bad.kind c.refused.result
    (c.in-Err-Bad.ensures.refused c.in-Err-Bad.at c.in-Err-Bad.kind (ap Err c.in-Err-Bad.field-0-is)) c.refused.ensures
