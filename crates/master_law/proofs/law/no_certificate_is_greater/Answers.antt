use Rattle.master_law.proofs.Laws.{no_certificate_is_greater}
use Rattle.master_law.proofs.law.no_certificate_is_greater.Goals as goal

pub returns : goal.returns
returns c = no_certificate_is_greater
