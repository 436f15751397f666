use Rattle.line_maker.proofs.NamesKept.{names_are_kept}
use Rattle.line_maker.proofs.law.names_are_kept.Goals as goal

pub returns : goal.returns
returns c = names_are_kept
