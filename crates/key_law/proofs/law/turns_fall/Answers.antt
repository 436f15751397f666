use Rattle.key_law.proofs.Laws.{turns_fall}
use Rattle.key_law.proofs.law.turns_fall.Goals as goal

pub returns : goal.returns
returns c = turns_fall
