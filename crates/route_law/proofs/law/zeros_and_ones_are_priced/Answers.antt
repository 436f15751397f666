use Rattle.route_law.proofs.ZerosAndOnes.{zeros_and_ones_are_priced}
use Rattle.route_law.proofs.law.zeros_and_ones_are_priced.Goals as goal

pub returns : goal.returns
returns c = zeros_and_ones_are_priced
