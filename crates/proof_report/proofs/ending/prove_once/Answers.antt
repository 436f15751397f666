use Rattle.std.proofs.Common.{refl}
use Rattle.proof_report.proofs.ending.prove_once.Goals as goal

pub returns : goal.returns
returns g c = c.prove_trimmed.ensures.plain refl
