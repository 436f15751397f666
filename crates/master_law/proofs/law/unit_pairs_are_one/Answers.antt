use Rattle.master_law.proofs.PairsOnce.{unit_pairs_are_one}
use Rattle.master_law.proofs.law.unit_pairs_are_one.Goals as goal

pub returns : goal.returns
returns c = unit_pairs_are_one
