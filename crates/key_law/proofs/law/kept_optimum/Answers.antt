use Rattle.key_law.proofs.Laws.{kept_optimum}
use Rattle.key_law.proofs.law.kept_optimum.Goals as goal

pub returns : goal.returns
returns c = kept_optimum
