use Rattle.key_law.proofs.Laws.{full_rows}
use Rattle.key_law.proofs.law.full_rows.Goals as goal

pub returns : goal.returns
returns c = full_rows
