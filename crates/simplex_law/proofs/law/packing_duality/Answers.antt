use Rattle.simplex_law.proofs.Duality.{packing_duality}
use Rattle.simplex_law.proofs.law.packing_duality.Goals as goal

pub returns : goal.returns
returns c = packing_duality
