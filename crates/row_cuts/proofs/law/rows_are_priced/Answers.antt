use Rattle.row_cuts.proofs.CountedNeeds.{rows_are_priced}
use Rattle.row_cuts.proofs.law.rows_are_priced.Goals as goal

pub returns : goal.returns
returns c = rows_are_priced
