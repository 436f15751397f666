use Rattle.route_law.proofs.Carrying.{basis_flows_carry}
use Rattle.route_law.proofs.law.basis_flows_carry.Goals as goal

pub returns : goal.returns
returns c = basis_flows_carry
