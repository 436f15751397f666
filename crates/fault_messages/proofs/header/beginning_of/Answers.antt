use Rattle.fault_messages.proofs.Beginnings.{first_fits}
use Rattle.fault_messages.proofs.header.beginning_of.Goals as goal

pub returns : goal.returns
returns c = first_fits c.args.bytes.now c.first_of.result c.first_of.ensures
