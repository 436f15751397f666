use Rattle.line_check.proofs.LinesMet.{robust_lines_are_met}
use Rattle.line_check.proofs.law.robust_lines_are_met.Goals as goal

pub returns : goal.returns
returns c = robust_lines_are_met
