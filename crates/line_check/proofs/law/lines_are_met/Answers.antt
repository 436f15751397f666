use Rattle.line_check.proofs.LinesMet.{lines_are_met}
use Rattle.line_check.proofs.law.lines_are_met.Goals as goal

pub returns : goal.returns
returns c = lines_are_met
