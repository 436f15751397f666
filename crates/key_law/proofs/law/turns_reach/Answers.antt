use Rattle.key_law.proofs.Laws.{turns_reach}
use Rattle.key_law.proofs.law.turns_reach.Goals as goal

pub returns : goal.returns
returns c = turns_reach
